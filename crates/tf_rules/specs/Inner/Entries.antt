-- The contracts' views of issues before they are shown.
use Rattle.std.specs.Prelude.{ℕ, ◌++◌, List, [], ◌∷◌, Option, Some, None, codes, map, if◌then◌else◌}
use Rattle.std.specs.List.{flat_map}
use Rattle.std.specs.Ordering.{nat_cmp, ordering_then}
use Rattle.std.specs.declared.cmp.Ordering.{Ordering}
use Rattle.tf_rules.specs.Findings as findings
use Rattle.tf_rules.specs.Answers.{shown_issue}
use Rattle.tf_rules.specs.Issues.{Issue, Place}
use Rattle.tf_rules.specs.declared.issue.Issue as shown
use Rattle.rule_set.specs.Rules.{rank}
use Rattle.rule_set.specs.RuleSets.{holds}
use Rattle.rule_set.specs.declared.rule.Rule.{Rule}
use Rattle.rule_set.specs.declared.rule.Rule.TheVariants.{DocumentedOutputs, DocumentedVariables, ModulePinnedSource, ModuleVersion, NamingConvention, TypedVariables, UnusedDeclarations}
use Rattle.tf_facts.specs.Declarations.{Declaration}
use Rattle.tf_rules.specs.Stored.{Stored, issue_at}
use Rattle.tf_rules.specs.declared.settings.Settings.{Settings}
use Rattle.tf_rules.specs.Naming.{naming_text}
use Rattle.tf_rules.specs.Inner.StoredViews.{stored_declaration, stored_names, place_of}
use Rattle.tf_rules.specs.declared.entry.IssueEntry.{IssueEntry}
use Rattle.tf_rules.specs.declared.entry.Finding.{Finding}
use Rattle.tf_rules.specs.declared.entry.Statement.{Statement}
use Rattle.tf_rules.specs.declared.entry.Statement.TheVariants.{Fixed, About, DefaultBranch, Misnamed, Unused}
use Rattle.tf_facts.specs.References.{last_of}

-- a blank, a quote and a name; the closing quote begins the text after it
abbrev pub open_quote : List ℕ → List ℕ → List ℕ
open_quote name rest = codes " \"" ++ (name ++ rest)

-- the text of a message
abbrev pub text_of : Statement → List ℕ
text_of (Fixed text) = text.now
text_of (About d rest) = findings.kind_text d.now.kind ++ open_quote (last_of (stored_names d.now.names)) rest.now
text_of (DefaultBranch d branch) = findings.about (stored_declaration d.now) (codes " source uses a default branch: " ++ branch.now)
text_of (Misnamed d naming) = findings.kind_text d.now.kind ++ (codes " name" ++ findings.quote_name (last_of (stored_names d.now.names)) (codes " must match " ++ naming_text naming))
text_of (Unused d) = findings.kind_text d.now.kind ++ findings.both_quoted (stored_names d.now.names) (codes " is declared but not used")

abbrev pub issue_of : IssueEntry → Issue
issue_of e = record { place = place_of e.at; rule = e.rule; message = text_of e.statement }

abbrev pub issues_of : List IssueEntry → List Issue
issues_of entries = map issue_of entries

-- the issue of an entry, as it is shown
abbrev pub shown_of : IssueEntry → shown.Issue
shown_of e = shown_issue (issue_of e)

-- a list of one finding or none
abbrev pub finding_listed : Option Finding → List (findings.Finding Place)
finding_listed None = []
finding_listed (Some f) = record { at = place_of f.at; message = text_of f.statement } ∷ []

-- the order by file, then token, then the name of the rule
abbrev pub entry_cmp : IssueEntry → IssueEntry → Ordering
entry_cmp a b = ordering_then (ordering_then (nat_cmp a.at.file b.at.file) (nat_cmp a.at.token b.at.token)) (nat_cmp (rank a.rule) (rank b.rule))

-- ---- the reports, rule by rule and declaration by declaration

-- the issues of a rule, if it is requested
abbrev pub issues_by : Settings → Stored → Rule → List Issue
issues_by s kept rule = if holds s.rules rule then map (issue_at rule) (findings.findings s.naming kept.references kept.facts rule) else []

-- the issues of a rule about one declaration, if the rule is requested
abbrev pub issues_if_asked : Settings → List (List ℕ) → Declaration Place → Rule → List Issue
issues_if_asked s used d rule = if holds s.rules rule then map (issue_at rule) (findings.finding s.naming used rule d) else []

-- the rules about declarations; the rule about a module's source is the last
abbrev pub declared_rules : List Rule
declared_rules = DocumentedOutputs ∷ DocumentedVariables ∷ ModuleVersion ∷ NamingConvention ∷ TypedVariables ∷ UnusedDeclarations ∷ ModulePinnedSource ∷ []

-- the issues of all these rules about one declaration
abbrev pub issues_declared : Settings → List (List ℕ) → Declaration Place → List Issue
issues_declared s used d = flat_map (issues_if_asked s used d) declared_rules
