-- Findings commute with another view of places, and depend on the references as a set.
use Rattle.std.proofs.Common.{◌≡◌, ◌∙◌, ap, ap₂, sym, refl, ℕ, Bool, true, false, not, List, [], ◌∷◌, ◌++◌, map}
use Rattle.std.specs.Prelude.{Option, Some, None, ◌&&◌, codes}
use Rattle.std.specs.List.{list_any, flat_map}
use Rattle.std.specs.Str.{bytes_eq}
use Rattle.std.proofs.lemmas.List.{map-append}
use Rattle.std.proofs.lemmas.Grind.{flat_map-append}
use Rattle.std.proofs.lemmas.List.Folds.{flat_map-map}
use Rattle.tf_facts.specs.Sources.{Source, Other, NotPinned, DefaultBranch, Registry}
use Rattle.tf_facts.specs.Declarations.{Declaration, SourceAt}
use Rattle.tf_facts.specs.Facts.{Facts}
use Rattle.tf_rules.specs.Findings.{Finding, findings, finding, says_if, says_of, slash_findings, about, unpinned_findings, unpinned_findings_by, from_registry, is_unused, uses_of, kind_text, both_quoted}
use Rattle.tf_facts.specs.Comments.{Comment}
use Rattle.tf_rules.specs.Issues.{comment_at}
use Rattle.tf_rules.specs.Stored.{source_at, declaration_at, facts_at, append_facts}
use Rattle.rule_set.specs.declared.rule.Rule.{Rule}
use Rattle.rule_set.specs.declared.rule.Rule.TheVariants.{CommentSyntax, DeprecatedIndex, DeprecatedInterpolation, DocumentedOutputs, DocumentedVariables, ModulePinnedSource, ModuleVersion, NamingConvention, TypedVariables, UnusedDeclarations}
use Rattle.tf_rules.specs.declared.naming.Naming.{Naming}

-- ---- lists

pub map-map : {A B C : Type 0} (g : B → C) (f : A → B) (xs : List A) → map g (map f xs) ≡ map (λ x. g (f x)) xs
map-map g f [] = refl
map-map g f (x ∷ xs) = ap (λ r. g (f x) ∷ r) (map-map g f xs)

pub map_same : {A B : Type 0} (f g : A → B) → ((x : A) → f x ≡ g x) → (xs : List A) → map f xs ≡ map g xs
map_same f g h [] = refl
map_same f g h (x ∷ xs) = ap₂ (λ y r. y ∷ r) (h x) (map_same f g h xs)

pub flat_map_same : {A B : Type 0} (f g : A → List B) → ((x : A) → f x ≡ g x) → (xs : List A) → flat_map f xs ≡ flat_map g xs
flat_map_same f g h [] = refl
flat_map_same f g h (x ∷ xs) = ap₂ (λ y r. y ++ r) (h x) (flat_map_same f g h xs)

pub map-flat_map : {A B C : Type 0} (g : B → C) (f : A → List B) (xs : List A) → map g (flat_map f xs) ≡ flat_map (λ x. map g (f x)) xs
map-flat_map g f [] = refl
map-flat_map g f (x ∷ xs) = map-append g (f x) (flat_map f xs) ∙ ap (λ r. map g (f x) ++ r) (map-flat_map g f xs)

-- ---- another view of places

abbrev pub finding_at : {P Q : Type 0} → (P → Q) → Finding P → Finding Q
finding_at f x = record { at = f x.at; message = x.message }

module _ {P Q : Type 0} (f : P → Q) where
  says_if-at : (test : Bool) (at : P) (message : List ℕ) → says_if test (f at) message ≡ map (finding_at f) (says_if test at message)
  says_if-at true at message = refl
  says_if-at false at message = refl

  unpinned_by-at : (d : Declaration P) (quote : P) (s : Source) → unpinned_findings_by (declaration_at f d) (f quote) s ≡ map (finding_at f) (unpinned_findings_by d quote s)
  unpinned_by-at d quote NotPinned = refl
  unpinned_by-at d quote (DefaultBranch branch) = refl
  unpinned_by-at d quote Other = refl
  unpinned_by-at d quote Registry = refl

  unpinned-at : (d : Declaration P) (s : Option (SourceAt P)) → unpinned_findings (declaration_at f d) (source_at f s) ≡ map (finding_at f) (unpinned_findings d s)
  unpinned-at d None = refl
  unpinned-at d (Some s) = unpinned_by-at d s.at s.source

  from_registry-at : (s : Option (SourceAt P)) → from_registry (source_at f s) ≡ from_registry s
  from_registry-at None = refl
  from_registry-at (Some s) = refl

  pub finding-at : (naming : Naming) (used : List (List ℕ)) (rule : Rule) (d : Declaration P) → finding naming used rule (declaration_at f d) ≡ map (finding_at f) (finding naming used rule d)
  finding-at naming used CommentSyntax d = refl
  finding-at naming used DeprecatedIndex d = refl
  finding-at naming used DeprecatedInterpolation d = refl
  finding-at naming used DocumentedOutputs d = says_if-at _ d.at _
  finding-at naming used DocumentedVariables d = says_if-at _ d.at _
  finding-at naming used ModulePinnedSource d = unpinned-at d d.source
  finding-at naming used ModuleVersion d = ap (λ b. says_if (b && not d.versioned) (f d.at) (about d (codes " has no version"))) (from_registry-at d.source) ∙ says_if-at _ d.at _
  finding-at naming used NamingConvention d = says_if-at _ d.at _
  finding-at naming used TypedVariables d = says_if-at _ d.at _
  finding-at naming used UnusedDeclarations d = says_if-at _ d.at _

  over_declarations : (naming : Naming) (used : List (List ℕ)) (rule : Rule) (ds : List (Declaration P))
      → flat_map (finding naming used rule) (map (declaration_at f) ds) ≡ map (finding_at f) (flat_map (finding naming used rule) ds)
  over_declarations naming used rule ds =
      flat_map-map (finding naming used rule) (declaration_at f) ds
      ∙ flat_map_same (λ d. finding naming used rule (declaration_at f d)) (λ d. map (finding_at f) (finding naming used rule d)) (finding-at naming used rule) ds
      ∙ sym (map-flat_map (finding_at f) (finding naming used rule) ds)

  slash_comment_finding-at : (c : Comment P) → slash_findings (comment_at f c) ≡ map (finding_at f) (slash_findings c)
  slash_comment_finding-at c = says_if-at _ c.at _

  over_comments : (cs : List (Comment P)) → flat_map slash_findings (map (comment_at f) cs) ≡ map (finding_at f) (flat_map slash_findings cs)
  over_comments cs =
      flat_map-map slash_findings (comment_at f) cs
      ∙ flat_map_same (λ c. slash_findings (comment_at f c)) (λ c. map (finding_at f) (slash_findings c)) slash_comment_finding-at cs
      ∙ sym (map-flat_map (finding_at f) slash_findings cs)

  over_places : (message : List ℕ) (xs : List P) → map (says_of message) (map f xs) ≡ map (finding_at f) (map (says_of message) xs)
  over_places message xs = map-map (says_of message) f xs ∙ sym (map-map (finding_at f) (says_of message) xs)

  pub findings-at : (naming : Naming) (used : List (List ℕ)) (k : Facts P) (rule : Rule) → findings naming used (facts_at f k) rule ≡ map (finding_at f) (findings naming used k rule)
  findings-at naming used k CommentSyntax = over_comments k.comments
  findings-at naming used k DeprecatedIndex = over_places _ k.indexes
  findings-at naming used k DeprecatedInterpolation = over_places _ k.interpolations
  findings-at naming used k DocumentedOutputs = over_declarations naming used DocumentedOutputs k.declarations
  findings-at naming used k DocumentedVariables = over_declarations naming used DocumentedVariables k.declarations
  findings-at naming used k ModulePinnedSource = over_declarations naming used ModulePinnedSource k.declarations
  findings-at naming used k ModuleVersion = over_declarations naming used ModuleVersion k.declarations
  findings-at naming used k NamingConvention = over_declarations naming used NamingConvention k.declarations
  findings-at naming used k TypedVariables = over_declarations naming used TypedVariables k.declarations
  findings-at naming used k UnusedDeclarations = over_declarations naming used UnusedDeclarations k.declarations

-- ---- the facts of two files

module _ {P : Type 0} (naming : Naming) (used : List (List ℕ)) (a b : Facts P) where
  pub findings-append_facts : (rule : Rule) → findings naming used (append_facts a b) rule ≡ findings naming used a rule ++ findings naming used b rule
  findings-append_facts CommentSyntax = flat_map-append _ a.comments b.comments
  findings-append_facts DeprecatedIndex = map-append _ a.indexes b.indexes
  findings-append_facts DeprecatedInterpolation = map-append _ a.interpolations b.interpolations
  findings-append_facts DocumentedOutputs = flat_map-append _ a.declarations b.declarations
  findings-append_facts DocumentedVariables = flat_map-append _ a.declarations b.declarations
  findings-append_facts ModulePinnedSource = flat_map-append _ a.declarations b.declarations
  findings-append_facts ModuleVersion = flat_map-append _ a.declarations b.declarations
  findings-append_facts NamingConvention = flat_map-append _ a.declarations b.declarations
  findings-append_facts TypedVariables = flat_map-append _ a.declarations b.declarations
  findings-append_facts UnusedDeclarations = flat_map-append _ a.declarations b.declarations

-- ---- the references as a set

-- both lists have the same texts
abbrev pub SameTexts : List (List ℕ) → List (List ℕ) → Type 0
SameTexts xs ys = (text : List ℕ) → list_any (bytes_eq text) xs ≡ list_any (bytes_eq text) ys

is_unused_same : (used others : List (List ℕ)) → SameTexts used others → (text : Option (List ℕ)) → is_unused used text ≡ is_unused others text
is_unused_same used others same None = refl
is_unused_same used others same (Some text) = ap not (same text)

module _ {P : Type 0} (naming : Naming) (used others : List (List ℕ)) (same : SameTexts used others) where
  finding_same : (rule : Rule) (d : Declaration P) → finding naming used rule d ≡ finding naming others rule d
  finding_same CommentSyntax d = refl
  finding_same DeprecatedIndex d = refl
  finding_same DeprecatedInterpolation d = refl
  finding_same DocumentedOutputs d = refl
  finding_same DocumentedVariables d = refl
  finding_same ModulePinnedSource d = refl
  finding_same ModuleVersion d = refl
  finding_same NamingConvention d = refl
  finding_same TypedVariables d = refl
  finding_same UnusedDeclarations d = ap (λ b. says_if b d.at (kind_text d.kind ++ both_quoted d.names (codes " is declared but not used"))) (is_unused_same used others same (uses_of d.kind d.names))

  over_same : (rule : Rule) (ds : List (Declaration P)) → flat_map (finding naming used rule) ds ≡ flat_map (finding naming others rule) ds
  over_same rule ds = flat_map_same (finding naming used rule) (finding naming others rule) (finding_same rule) ds

  pub findings_same : (k : Facts P) (rule : Rule) → findings naming used k rule ≡ findings naming others k rule
  findings_same k CommentSyntax = refl
  findings_same k DeprecatedIndex = refl
  findings_same k DeprecatedInterpolation = refl
  findings_same k DocumentedOutputs = over_same DocumentedOutputs k.declarations
  findings_same k DocumentedVariables = over_same DocumentedVariables k.declarations
  findings_same k ModulePinnedSource = over_same ModulePinnedSource k.declarations
  findings_same k ModuleVersion = over_same ModuleVersion k.declarations
  findings_same k NamingConvention = over_same NamingConvention k.declarations
  findings_same k TypedVariables = over_same TypedVariables k.declarations
  findings_same k UnusedDeclarations = over_same UnusedDeclarations k.declarations
