-- The findings for some rules and declarations: rule by rule, and declaration by declaration.
use Rattle.std.proofs.Common.{◌≡◌, ◌∙◌, ap, sym, refl, subst, ℕ, Bool, true, false, true≢false, cond, List, [], ◌∷◌, ◌++◌, append_assoc, map}
use Rattle.std.specs.Prelude.{IsPermutation, ◌||◌}
use Rattle.std.specs.List.{flat_map, list_any}
use Rattle.std.proofs.lemmas.Grind.{flat_map-append}
use Rattle.std.proofs.lemmas.List.{append-nil}
use Rattle.std.proofs.lemmas.List.Sorted.{IsPermutation-refl, IsPermutation-trans, IsPermutation-append_left, IsPermutation-append_right, IsPermutation-append_comm}
use Rattle.rule_set.specs.RuleSets.{holds, rules_of}
use Rattle.rule_set.specs.Rules.{all_rules}
use Rattle.rule_set.specs.declared.rule.Rule.{Rule}
use Rattle.rule_set.specs.declared.rule.Rule.TheVariants.{CommentSyntax, DeprecatedIndex, DeprecatedInterpolation, DocumentedOutputs, DocumentedVariables, ModulePinnedSource, ModuleVersion, NamingConvention, TypedVariables, UnusedDeclarations}
use Rattle.tf_rules.specs.Findings.{finding, findings}
use Rattle.tf_facts.specs.Declarations.{Declaration}
use Rattle.tf_rules.specs.Issues.{Issue, Place}
use Rattle.tf_rules.specs.Stored.{Stored, issue_at}
use Rattle.tf_rules.specs.Inner.Entries.{declared_rules, issues_by, issues_declared, issues_if_asked}
use Rattle.tf_rules.specs.declared.settings.Settings.{Settings}
use Rattle.tf_rules.proofs.EntryLemmas.{put_passing}
use Rattle.tf_rules.proofs.FindingLemmas.{flat_map_same, map-flat_map}

-- ---- two lists for each element

same : {X : Type 0} (xs ys : List X) → xs ≡ ys → IsPermutation xs ys
same xs ys e = subst (λ zs. IsPermutation xs zs) e (IsPermutation-refl xs)

-- the second list and the third exchanged
module _ {X : Type 0} (a b c d : List X) where
  swapped : IsPermutation (b ++ (c ++ d)) (c ++ (b ++ d))
  swapped =
      IsPermutation-trans _ _ _ (same (b ++ (c ++ d)) ((b ++ c) ++ d) (sym (append_assoc b c d)))
      (IsPermutation-trans _ _ _ (IsPermutation-append_left d (b ++ c) (c ++ b) (IsPermutation-append_comm b c))
      (same ((c ++ b) ++ d) (c ++ (b ++ d)) (append_assoc c b d)))

  between : IsPermutation ((a ++ b) ++ (c ++ d)) ((a ++ c) ++ (b ++ d))
  between =
      IsPermutation-trans _ _ _ (same ((a ++ b) ++ (c ++ d)) (a ++ (b ++ (c ++ d))) (append_assoc a b (c ++ d)))
      (IsPermutation-trans _ _ _ (IsPermutation-append_right a (b ++ (c ++ d)) (c ++ (b ++ d)) swapped)
      (same (a ++ (c ++ (b ++ d))) ((a ++ c) ++ (b ++ d)) (sym (append_assoc a c (b ++ d)))))

module _ {A X : Type 0} (g h : A → List X) where
  split : (xs : List A) → IsPermutation (flat_map (λ x. g x ++ h x) xs) (flat_map g xs ++ flat_map h xs)
  split [] = IsPermutation-refl []
  split (x ∷ xs) =
      IsPermutation-trans _ _ _ (IsPermutation-append_right (g x ++ h x) _ _ (split xs))
      (between (g x) (h x) (flat_map g xs) (flat_map h xs))

-- ---- row by row, and column by column

module _ {X : Type 0} where
  abbrev none : List X
  none = []

  nothing_put : {A : Type 0} (xs : List A) → flat_map (λ x. none) xs ≡ none
  nothing_put [] = refl
  nothing_put (x ∷ xs) = nothing_put xs

pub exchanged : {A B X : Type 0} (f : A → B → List X) (xs : List A) (ys : List B) → IsPermutation (flat_map (λ x. flat_map (f x) ys) xs) (flat_map (λ y. flat_map (λ x. f x y) xs) ys)
exchanged f xs [] = same _ _ (nothing_put xs)
exchanged f xs (y ∷ ys) =
    IsPermutation-trans _ _ _ (split (λ x. f x y) (λ x. flat_map (f x) ys) xs)
    (IsPermutation-append_right (flat_map (λ x. f x y) xs) _ _ (exchanged f xs ys))

-- the first element moved to the end
module _ {A X : Type 0} (f : A → List X) where
  put_last : (x : A) (xs : List A) → IsPermutation (flat_map f (x ∷ xs)) (flat_map f (xs ++ x ∷ []))
  put_last x xs =
      IsPermutation-trans _ _ _ (IsPermutation-append_comm (f x) (flat_map f xs))
      (same _ _ (ap (λ r. flat_map f xs ++ r) (sym (append-nil (f x))) ∙ sym (flat_map-append f xs (x ∷ []))))

  pub third_last : (a b c : A) (xs : List A) → IsPermutation (flat_map f (a ∷ b ∷ c ∷ xs)) (flat_map f (a ∷ b ∷ (xs ++ c ∷ [])))
  third_last a b c xs = IsPermutation-append_right (f a) _ _ (IsPermutation-append_right (f b) _ _ (put_last c xs))

-- ---- the reports of the rules

if_asked : {A X Y : Type 0} (b : Bool) (g : X → Y) (f : A → List X) (xs : List A) → cond b (map g (flat_map f xs)) [] ≡ flat_map (λ x. cond b (map g (f x)) []) xs
if_asked true g f xs = map-flat_map g f xs
if_asked false g f xs = sym (nothing_put xs)

module _ (s : Settings) (kept : Stored) where
  abbrev by_declarations : Rule → List Issue
  by_declarations rule = flat_map (λ d. issues_if_asked s kept.references d rule) kept.facts.declarations

  abbrev pub rule_by_rule : List Issue
  rule_by_rule = flat_map (λ rule. map (issue_at rule) (findings s.naming kept.references kept.facts rule)) (rules_of s.rules)

  abbrev pub declaration_by_declaration : List Issue
  declaration_by_declaration = flat_map (issues_declared s kept.references) kept.facts.declarations

  one_rule : (rule : Rule) → cond (holds s.rules rule) (map (issue_at rule) (flat_map (finding s.naming kept.references rule) kept.facts.declarations)) [] ≡ by_declarations rule
  one_rule rule = if_asked (holds s.rules rule) (issue_at rule) (finding s.naming kept.references rule) kept.facts.declarations

  -- those rules in the order of their names
  abbrev named_rules : List Rule
  named_rules = DocumentedOutputs ∷ DocumentedVariables ∷ ModulePinnedSource ∷ ModuleVersion ∷ NamingConvention ∷ TypedVariables ∷ UnusedDeclarations ∷ []

  declared : flat_map (issues_by s kept) named_rules ≡ flat_map by_declarations named_rules
  declared = flat_map_same (λ rule. cond (holds s.rules rule) (map (issue_at rule) (flat_map (finding s.naming kept.references rule) kept.facts.declarations)) []) by_declarations one_rule named_rules

  other_order : IsPermutation (flat_map by_declarations named_rules) (flat_map by_declarations declared_rules)
  other_order = third_last by_declarations DocumentedOutputs DocumentedVariables ModulePinnedSource (ModuleVersion ∷ NamingConvention ∷ TypedVariables ∷ UnusedDeclarations ∷ [])

  abbrev pub first : List Issue
  first = issues_by s kept CommentSyntax

  abbrev pub second : List Issue
  second = issues_by s kept DeprecatedIndex

  abbrev pub third : List Issue
  third = issues_by s kept DeprecatedInterpolation

  in_turn : rule_by_rule ≡ first ++ (second ++ (third ++ flat_map by_declarations named_rules))
  in_turn = sym (put_passing (holds s.rules) (λ rule. map (issue_at rule) (findings s.naming kept.references kept.facts rule)) all_rules) ∙ ap (λ r. first ++ (second ++ (third ++ r))) declared

  -- the entries that are pushed first by rules and then by declarations are the rules' reports
  pub all_reported : (entries : List Issue) → entries ≡ ((first ++ second) ++ third) ++ declaration_by_declaration → IsPermutation rule_by_rule entries
  all_reported entries e =
      IsPermutation-trans _ _ _ (same rule_by_rule _ in_turn)
      (IsPermutation-trans _ _ _
      (IsPermutation-append_right first _ _ (IsPermutation-append_right second _ _ (IsPermutation-append_right third _ _
      (IsPermutation-trans _ _ _ other_order (exchanged (λ rule d. issues_if_asked s kept.references d rule) declared_rules kept.facts.declarations)))))
      (same _ entries (sym (e ∙ append_assoc (first ++ second) third declaration_by_declaration ∙ append_assoc first second (third ++ declaration_by_declaration)))))

-- ---- no rule about declarations is requested, so nothing is reported of them

module _ (s : Settings) (used : List (List ℕ)) where
  none_asked : (d : Declaration Place) (rules : List Rule) → list_any (holds s.rules) rules ≡ false → flat_map (issues_if_asked s used d) rules ≡ []
  none_asked d [] h = refl
  none_asked d (rule ∷ rules) h = by (holds s.rules rule) (none_asked d rules) h
    where
      by : (b : Bool) → (list_any (holds s.rules) rules ≡ false → flat_map (issues_if_asked s used d) rules ≡ []) → (b || list_any (holds s.rules) rules) ≡ false → cond b (map (issue_at rule) (finding s.naming used rule d)) [] ++ flat_map (issues_if_asked s used d) rules ≡ []
      by true rest none_held = absurd (true≢false none_held)
      by false rest none_held = rest none_held

  pub nothing_declared : (ds : List (Declaration Place)) → list_any (holds s.rules) declared_rules ≡ false → flat_map (issues_declared s used) ds ≡ []
  nothing_declared ds h = flat_map_same (issues_declared s used) (λ d. []) (λ d. none_asked d declared_rules h) ds ∙ nothing_put ds
