-- The issues of the files of a module: for each rule a set of (file, token, message), without those that a comment
-- silences, and the ordered list of them all, by file, then token, then the name of the rule. The place of an issue is
-- that of its token. Our own choice.
use Rattle.std.specs.Prelude.{◌≡◌, ◌<◌, ◌+◌, ◌⊎◌, ◌==◌, ◌&&◌, ◌||◌, ℕ, Bool, not, List, filter, map}
use Rattle.std.specs.List.{flat_map, list_any}
use Rattle.tf_rules.specs.Ordered.{SameMembers, Ascends}
use Rattle.hcl_tokens.specs.Scanned.{Scanned}
use Rattle.hcl_source.specs.Places.{place}
use Rattle.hcl_source.specs.declared.fault.Position.{Position}
use Rattle.hcl_grammar.specs.Verdict.{start_of}
use Rattle.hcl_grammar.specs.Numbered.{Numbered, number_tokens}
use Rattle.rule_set.specs.Rules.{is_rule, rank}
use Rattle.rule_set.specs.RuleSets.{rules_of}
use Rattle.tf_facts.specs.Comments.{Comment, comments}
use Rattle.tf_facts.specs.References.{references}
use Rattle.tf_rules.specs.Findings.{Finding, findings}
use Rattle.tf_facts.specs.Facts.{facts_of}
use Rattle.rule_set.specs.declared.rule.Rule.{Rule}
use Rattle.tf_rules.specs.declared.naming.Naming.{Naming}
use Rattle.tf_rules.specs.declared.settings.Settings.{Settings}

-- a file of the module: its number, its text and its tokens
pub record File : Type 0 where
  pub number : ℕ
  pub source : Scanned

-- the place of a token
pub record Place : Type 0 where
  pub file : ℕ
  pub token : ℕ
  pub at : Position

pub record Issue : Type 0 where
  pub place : Place
  pub rule : Rule
  pub message : List ℕ

-- the request: the rules, each once, in the order of their names, and the naming
pub record Asked : Type 0 where
  pub rules : List Rule
  pub naming : Naming

abbrev pub asked_of : Settings → Asked
asked_of settings = record { rules = rules_of settings.rules; naming = settings.naming }

abbrev pub tokens_of : File → List Numbered
tokens_of file = number_tokens file.source.tokens

-- the place of the token of this number
abbrev pub place_in : File → ℕ → Place
place_in file n =
    record {
      file = file.number;
      token = n;
      at = place file.source.text (start_of file.source.tokens n);
    }

-- the references of all files
abbrev pub all_references : List File → List (List ℕ)
all_references files = flat_map (λ file. references (tokens_of file)) files

abbrev pub issue_in : File → Rule → Finding ℕ → Issue
issue_in file rule f = record { place = place_in file f.at; rule = rule; message = f.message }

-- the issues of a rule in a file of the module
abbrev pub issues_in : Asked → List (List ℕ) → Rule → File → List Issue
issues_in asked used rule file =
    map (issue_in file rule) (findings asked.naming used (facts_of (tokens_of file)) rule)

-- the issues of all rules, silenced or not
abbrev pub reported_issues : Asked → List File → List Issue
reported_issues asked files =
    flat_map (λ rule. flat_map (issues_in asked (all_references files) rule) files) asked.rules

-- ---- silencing

abbrev pub comment_at : {P Q : Type 0} → (P → Q) → Comment P → Comment Q
comment_at f c = record { at = f c.at; slashes = c.slashes; silences = c.silences }

-- the comments of all files
abbrev pub all_comments : List File → List (Comment Place)
all_comments files =
    flat_map (λ file. map (comment_at (place_in file)) (comments (tokens_of file))) files

-- the line is the comment's own, or the one below
abbrev pub is_beside : ℕ → ℕ → Bool
is_beside own line = (own == line) || (own + 1 == line)

-- the comment silences the rule on a line of a file
abbrev pub covers : ℕ → ℕ → Rule → Comment Place → Bool
covers file line rule c =
    (c.at.file == file) && is_beside c.at.at.line line && list_any (is_rule rule) c.silences

abbrev pub is_silenced : List (Comment Place) → Issue → Bool
is_silenced comments i = list_any (covers i.place.file i.place.at.line i.rule) comments

-- THE SET of issues, rule by rule
abbrev pub issues : Asked → List File → List Issue
issues asked files =
    filter (λ i. not (is_silenced (all_comments files) i)) (reported_issues asked files)

-- the key for the order
pub record Key : Type 0 where
  pub file : ℕ
  pub token : ℕ
  pub rank : ℕ  -- the rule's rank in the order of the names

abbrev pub key_of : Issue → Key
key_of i = record { file = i.place.file; token = i.place.token; rank = rank i.rule }

-- a lower file; or the same file and an earlier token; or the same token and a rule whose name comes first
abbrev pub Precedes : Key → Key → Type 0
Precedes a b =
    (a.file < b.file)
    ⊎ ((a.file ≡ b.file) × ((a.token < b.token) ⊎ ((a.token ≡ b.token) × (a.rank < b.rank))))

abbrev pub Before : Issue → Issue → Type 0
Before a b = Precedes (key_of a) (key_of b)

-- THE LIST: the issues, each once, in order
pub record IsReport (asked : Asked) (files : List File) (report : List Issue) : Type 0 where
  pub members : SameMembers (issues asked files) report
  pub ordered : Ascends Before report
