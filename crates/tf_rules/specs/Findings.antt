-- The findings of each rule, with their messages. A rule depends on the facts of a file: the places of patterns of
-- tokens, the declarations, and the references of all files. Our own choice.
use Rattle.std.specs.Prelude.{ℕ, ◌++◌, ◌&&◌, Bool, true, false, not, List, [], ◌∷◌, Option, Some, None, codes, map, if◌then◌else◌}
use Rattle.std.specs.List.{list_any, flat_map}
use Rattle.std.specs.Str.{bytes_eq}
use Rattle.tf_rules.specs.Naming.{matches_naming, naming_text}
use Rattle.tf_facts.specs.Sources.{Source, Other, NotPinned, DefaultBranch, Registry}
use Rattle.tf_facts.specs.Declarations.{Declaration, SourceAt, is_kind}
use Rattle.tf_facts.specs.References.{last_of, variable_reference, local_reference, data_reference}
use Rattle.tf_facts.specs.Comments.{Comment}
use Rattle.tf_facts.specs.Facts.{Facts}
use Rattle.rule_set.specs.declared.rule.Rule.{Rule}
use Rattle.rule_set.specs.declared.rule.Rule.TheVariants.{CommentSyntax, DeprecatedIndex, DeprecatedInterpolation, DocumentedOutputs, DocumentedVariables, ModulePinnedSource, ModuleVersion, NamingConvention, TypedVariables, UnusedDeclarations}
use Rattle.tf_rules.specs.declared.naming.Naming.{Naming}
use Rattle.tf_facts.specs.declared.declaration_kind.DeclarationKind.{DeclarationKind}
use Rattle.tf_facts.specs.declared.declaration_kind.DeclarationKind.TheVariants as declares

-- a place, and the message of a rule about it
pub record Finding (P : Type 0) : Type 0 where
  pub at : P
  pub message : List ℕ

-- ---- texts

abbrev pub kind_text : DeclarationKind → List ℕ
kind_text declares.Variable = codes "variable"
kind_text declares.Output = codes "output"
kind_text declares.Module = codes "module"
kind_text declares.Resource = codes "resource"
kind_text declares.Data = codes "data"
kind_text declares.Local = codes "local"

-- a blank, a name in double quotes, and the text after it
abbrev pub quote_name : List ℕ → List ℕ → List ℕ
quote_name name rest = codes " \"" ++ (name ++ (codes "\"" ++ rest))

abbrev pub both_quoted : List (List ℕ) → List ℕ → List ℕ
both_quoted [] rest = rest
both_quoted (n ∷ ns) rest = quote_name n (both_quoted ns rest)

-- `KIND "NAME"` and the text after it
abbrev pub about : {P : Type 0} → Declaration P → List ℕ → List ℕ
about d rest = kind_text d.kind ++ quote_name (last_of d.names) rest

-- ---- tests

-- the reference that uses a declaration, or none if it can't be unused
abbrev pub uses_of : DeclarationKind → List (List ℕ) → Option (List ℕ)
uses_of declares.Variable names = Some (variable_reference (last_of names))
uses_of declares.Local names = Some (local_reference (last_of names))
uses_of declares.Data (t ∷ n ∷ []) = Some (data_reference t n)
uses_of _ names = None

abbrev pub is_unused : List (List ℕ) → Option (List ℕ) → Bool
is_unused used None = false
is_unused used (Some text) = not (list_any (bytes_eq text) used)

-- ---- findings

abbrev pub says_if : {P : Type 0} → Bool → P → List ℕ → List (Finding P)
says_if test at message = if test then record { at = at; message = message } ∷ [] else []

abbrev pub says_of : {P : Type 0} → List ℕ → P → Finding P
says_of message at = record { at = at; message = message }

abbrev pub unpinned_findings_by : {P : Type 0} → Declaration P → P → Source → List (Finding P)
unpinned_findings_by d quote NotPinned =
    says_of (about d (codes " source is not pinned")) quote ∷ []
unpinned_findings_by d quote (DefaultBranch branch) =
    says_of (about d (codes " source uses a default branch: " ++ branch)) quote ∷ []
unpinned_findings_by d quote _ = []

abbrev pub unpinned_findings : {P : Type 0} → Declaration P → Option (SourceAt P) → List (Finding P)
unpinned_findings d None = []
unpinned_findings d (Some s) = unpinned_findings_by d s.at s.source

abbrev pub from_registry : {P : Type 0} → Option (SourceAt P) → Bool
from_registry None = false
from_registry (Some s) = is_from s.source
  where
    is_from : Source → Bool
    is_from Registry = true
    is_from _ = false

-- the findings about a comment that begins with `//`
abbrev pub slash_findings : {P : Type 0} → Comment P → List (Finding P)
slash_findings c = says_if c.slashes c.at (codes "line comments should begin with #")

-- the findings of a rule about one declaration, if all files together have these references
abbrev pub finding : {P : Type 0} → Naming → List (List ℕ) → Rule → Declaration P → List (Finding P)
finding naming used DocumentedOutputs d =
    says_if (is_kind declares.Output d.kind
    && not d.described) d.at (about d (codes " has no description"))
finding naming used DocumentedVariables d =
    says_if (is_kind declares.Variable d.kind
    && not d.described) d.at (about d (codes " has no description"))
finding naming used ModulePinnedSource d = unpinned_findings d d.source
finding naming used ModuleVersion d =
    says_if (from_registry d.source && not d.versioned) d.at (about d (codes " has no version"))
finding naming used NamingConvention d =
    says_if (not (matches_naming naming (last_of d.names))) d.at (kind_text d.kind
    ++ (codes " name" ++ quote_name (last_of d.names) (codes " must match " ++ naming_text naming)))
finding naming used TypedVariables d =
    says_if (is_kind declares.Variable d.kind && not d.typed) d.at (about d (codes " has no type"))
finding naming used UnusedDeclarations d =
    says_if (is_unused used (uses_of d.kind d.names)) d.at (kind_text d.kind
    ++ both_quoted d.names (codes " is declared but not used"))
finding naming used CommentSyntax d = []
finding naming used DeprecatedIndex d = []
finding naming used DeprecatedInterpolation d = []

-- THE FINDINGS OF A RULE
abbrev pub findings : {P : Type 0} → Naming → List (List ℕ) → Facts P → Rule → List (Finding P)
findings naming used facts CommentSyntax = flat_map slash_findings facts.comments
findings naming used facts DeprecatedIndex =
    map (says_of (codes "list items should be accessed using square brackets")) facts.indexes
findings naming used facts DeprecatedInterpolation =
    map (says_of (codes "interpolation-only expressions are deprecated")) facts.interpolations
findings naming used facts rule = flat_map (finding naming used rule) facts.declarations
