-- Rules by their names.
use Rattle.std.proofs.Common.{◌≡◌, ◌∙◌, ap, sym, refl, true≢false, ℕ, Bool, true, false, cond, List, [], ◌∷◌, inl, inr}
use Rattle.std.specs.Prelude.{◌&&◌, ◌⊎◌, not, Option, Some, None, MatchOption, find}
use Rattle.std.specs.List.{list_all}
use Rattle.std.specs.Str.{bytes_eq}
use Rattle.std.proofs.lemmas.Slice.Eq.{bytes_eq-Decides}
use Rattle.rule_set.specs.Rules.{all_rules, is_rule, rule_name}
use Rattle.rule_set.specs.declared.rule.Rule.{Rule}
use Rattle.rule_set.specs.declared.rule.Rule.TheVariants.{CommentSyntax, DeprecatedIndex, DeprecatedInterpolation, DocumentedOutputs, DocumentedVariables, ModulePinnedSource, ModuleVersion, NamingConvention, TypedVariables, UnusedDeclarations}

-- the element is in the list
abbrev Among : {X : Type 0} → X → List X → Type 0
Among x [] = ⊥
Among x (y ∷ ys) = (x ≡ y) ⊎ Among x ys

match_weaker : {X P R : Type 0} {Q S : X → Type 0} (o : Option X) → (P → R) → ((x : X) → Q x → S x) → MatchOption o P Q → MatchOption o R S
match_weaker None f g h = f h
match_weaker (Some x) f g h = g x h

-- the first that passes, or none does
first_found : {X : Type 0} (p : X → Bool) (xs : List X) → MatchOption (find p xs) ((x : X) → Among x xs → p x ≡ false) (λ x. p x ≡ true)
first_found p [] = λ x m. absurd m
first_found {X} p (y ∷ ys) = by (p y) refl (first_found p ys)
  where
    none : p y ≡ false → ((x : X) → Among x ys → p x ≡ false) → (x : X) → Among x (y ∷ ys) → p x ≡ false
    none e h x (inl same) = ap p same ∙ e
    none e h x (inr m) = h x m

    by : (b : Bool) → p y ≡ b → MatchOption (find p ys) ((x : X) → Among x ys → p x ≡ false) (λ x. p x ≡ true) → MatchOption (cond b (Some y) (find p ys)) ((x : X) → Among x (y ∷ ys) → p x ≡ false) (λ x. p x ≡ true)
    by true e h = e
    by false e h = match_weaker (find p ys) (none e) (λ x k. k) h

among_all : (rule : Rule) → Among rule all_rules
among_all CommentSyntax = inl refl
among_all DeprecatedIndex = inr (inl refl)
among_all DeprecatedInterpolation = inr (inr (inl refl))
among_all DocumentedOutputs = inr (inr (inr (inl refl)))
among_all DocumentedVariables = inr (inr (inr (inr (inl refl))))
among_all ModulePinnedSource = inr (inr (inr (inr (inr (inl refl)))))
among_all ModuleVersion = inr (inr (inr (inr (inr (inr (inl refl))))))
among_all NamingConvention = inr (inr (inr (inr (inr (inr (inr (inl refl)))))))
among_all TypedVariables = inr (inr (inr (inr (inr (inr (inr (inr (inl refl))))))))
among_all UnusedDeclarations = inr (inr (inr (inr (inr (inr (inr (inr (inr (inl refl)))))))))

pub by_name : (name : List ℕ) → MatchOption (find (λ rule. bytes_eq (rule_name rule) name) all_rules) ((rule : Rule) → rule_name rule ≡ name → ⊥) (λ rule. rule_name rule ≡ name)
by_name name =
    match_weaker (find (λ rule. bytes_eq (rule_name rule) name) all_rules)
    (λ none rule same. true≢false (sym ((bytes_eq-Decides (rule_name rule) name).1 same) ∙ none rule (among_all rule)))
    (λ rule found. (bytes_eq-Decides (rule_name rule) name).0 found)
    (first_found (λ rule. bytes_eq (rule_name rule) name) all_rules)

-- ---- a rule is identified by its name

abbrev both_ways : Bool → Bool → Bool
both_ways true b = b
both_ways false b = not b

same_tests : (a b : Bool) → both_ways a b ≡ true → a ≡ b
same_tests true true e = refl
same_tests true false e = sym e
same_tests false true e = e
same_tests false false e = refl

all_pass : {X : Type 0} (p : X → Bool) (xs : List X) (x : X) → list_all p xs ≡ true → Among x xs → p x ≡ true
all_pass p [] x e m = absurd m
all_pass {X} p (y ∷ ys) x e m = by (p y) refl e m (λ rest k. all_pass p ys x rest k)
  where
    by : (b : Bool) → p y ≡ b → (b && list_all p ys) ≡ true → Among x (y ∷ ys) → (list_all p ys ≡ true → Among x ys → p x ≡ true) → p x ≡ true
    by true here rest (inl same) more = ap p same ∙ here
    by true here rest (inr k) more = more rest k
    by false here rest k more = absurd (true≢false (sym rest))

by_names : list_all (λ a. list_all (λ b. both_ways (is_rule a b) (bytes_eq (rule_name b) (rule_name a))) all_rules) all_rules ≡ true
by_names = refl

pub is_rule_by_name : (a b : Rule) → is_rule a b ≡ bytes_eq (rule_name b) (rule_name a)
is_rule_by_name a b =
    same_tests (is_rule a b) (bytes_eq (rule_name b) (rule_name a))
    (all_pass (λ y. both_ways (is_rule a y) (bytes_eq (rule_name y) (rule_name a))) all_rules b
    (all_pass (λ x. list_all (λ y. both_ways (is_rule x y) (bytes_eq (rule_name y) (rule_name x))) all_rules) all_rules a by_names (among_all a)) (among_all b))
