-- Sets of rules, part by part.
use Rattle.std.proofs.Common.{◌≡◌, ◌∙◌, ◌+◌, ℕ, Bool, true, false, cond, List, [], ◌∷◌, ◌++◌, refl, sym, ap, drop, eqb-true, take}
use Rattle.std.specs.Prelude.{◌||◌, ◌&&◌, ◌==◌, ◌≢◌, Option, Some, None, Ok, Err, filter, find, not, if◌then◌else◌}
use Rattle.std.specs.List.{list_all, list_any}
use Rattle.std.specs.Option.{option_or}
use Rattle.std.proofs.lemmas.List.{take-append-drop}
use Rattle.std.proofs.lemmas.List.Folds.{find-append, list_all-append}
use Rattle.std.proofs.lemmas.List.Sums.{fold-append}
use Rattle.std.proofs.lemmas.Slice.Eq.{bytes_eq-Decides}
use Rattle.rule_set.specs.RuleSets.{holds, rules_of}
use Rattle.rule_set.specs.Rules.{all_rules, rule_name}
use Rattle.rule_set.specs.declared.rule.Rule.{Rule}
use Rattle.rule_set.specs.declared.rule_set.RuleSet.{RuleSet}
use Rattle.module_config.specs.declared.list_fault.ListFault.TheVariants.{UnknownRule, NoneLeft}
use Rattle.module_config.specs.Lists.{part_name, is_rule_named, is_asked, is_asked_after, is_known_part, rules_of_parts, stands_for, takes_away}
use Rattle.module_config.specs.Inner.Listed.{IsSetByName, Listed}

-- ---- one name

pub unnamed : (name : List ℕ) (rule : Rule) → ((other : Rule) → rule_name other ≡ name → ⊥) → false ≡ is_rule_named name rule
unnamed name rule none = by (is_rule_named name rule) refl
  where
    by : (b : Bool) → is_rule_named name rule ≡ b → false ≡ b
    by true e = absurd (none rule ((bytes_eq-Decides (rule_name rule) name).0 e))
    by false e = refl

pub any_same : {A : Type 0} (p q : A → Bool) (xs : List A) → ((x : A) → p x ≡ q x) → list_any p xs ≡ list_any q xs
any_same p q [] h = refl
any_same p q (x ∷ xs) h = ap (λ b. b || list_any p xs) (h x) ∙ ap (λ b. q x || b) (any_same p q xs h)

filter_same : {A : Type 0} (p q : A → Bool) (xs : List A) → ((x : A) → p x ≡ q x) → filter p xs ≡ filter q xs
filter_same p q [] h = refl
filter_same p q (x ∷ xs) h = ap (λ b. cond b (x ∷ filter p xs) (filter p xs)) (h x) ∙ ap (λ l. cond (q x) (x ∷ l) l) (filter_same p q xs h)

-- a set has any rule if and only if its definition has
pub any_of : (set : RuleSet) (p : Rule → Bool) (b r : Bool) → b ≡ list_any (holds set) all_rules → ((rule : Rule) → holds set rule ≡ p rule) → b ≡ r → list_any p all_rules ≡ r
any_of set p b r e h is = sym (any_same (holds set) p all_rules h) ∙ sym e ∙ is

pub either_way : (a b c : Bool) → c ≡ (a || b) → (s : Bool) → b ≡ s → c ≡ (if s then true else a)
either_way true true c e s i = e ∙ ap (λ x. if x then true else true) i
either_way true false c e s i = e ∙ ap (λ x. if x then true else true) i
either_way false true c e s i = e ∙ ap (λ x. if x then true else false) i
either_way false false c e s i = e ∙ ap (λ x. if x then true else false) i

pub first_way : (a b c : Bool) → c ≡ (a && not b) → (s : Bool) → b ≡ s → c ≡ (if s then false else a)
first_way true true c e s i = e ∙ ap (λ x. if x then false else true) i
first_way true false c e s i = e ∙ ap (λ x. if x then false else true) i
first_way false true c e s i = e ∙ ap (λ x. if x then false else false) i
first_way false false c e s i = e ∙ ap (λ x. if x then false else false) i

-- ---- one part

-- the name is after the dash
dashed : (part name : List ℕ) → part ≡ 45 ∷ name → (takes_away part ≡ true) × (part_name part ≡ name)
dashed part name e = (ap takes_away e, ap part_name e)

left_true : (x y : Bool) → (x && y) ≡ true → x ≡ true
left_true true y e = refl
left_true false y e = e

pub undashed : (part : List ℕ) → ((rest : List ℕ) → part ≢ 45 ∷ rest) → (takes_away part ≡ false) × (part_name part ≡ part)
undashed [] h = (refl, refl)
undashed (b ∷ bs) h = by (takes_away (b ∷ bs)) refl
  where
    by : (t : Bool) → takes_away (b ∷ bs) ≡ t → (takes_away (b ∷ bs) ≡ false) × (part_name (b ∷ bs) ≡ b ∷ bs)
    by true e = absurd (h bs (ap (λ x. x ∷ bs) (sym (eqb-true 45 b (left_true (45 == b) _ e)))))
    by false e = (e, ap (λ t. if t then bs else b ∷ bs) e)

and_true : (a b : Bool) → a ≡ true → b ≡ true → (a && (b && true)) ≡ true
and_true a b e f = ap (λ x. x && (b && true)) e ∙ ap (λ x. x && true) f

and_false : (a b : Bool) → b ≡ false → (a && (b && true)) ≡ false
and_false true b f = ap (λ x. x && true) f
and_false false b f = refl

pub none_known : (parts : List (List ℕ)) (part : List ℕ) → list_all is_known_part parts ≡ false → list_all is_known_part (parts ++ part ∷ []) ≡ false
none_known parts part e = list_all-append is_known_part parts (part ∷ []) ∙ ap (λ v. v && (is_known_part part && true)) e

one_more : (t : Bool) (parts : List (List ℕ)) (part name : List ℕ) (set : RuleSet) (r : Option RuleSet) → takes_away part ≡ t → part_name part ≡ name → IsSetByName (not t) name set r
    → Listed parts (Some set) → Listed (parts ++ part ∷ []) r
one_more t parts part name set None te be none listed =
    list_all-append is_known_part parts (part ∷ []) ∙ and_false (list_all is_known_part parts) (is_known_part part) (ap (λ n. list_any (stands_for n) all_rules) be ∙ none)
one_more t parts part name set (Some more) te be (known, h) (all, is) = (
  list_all-append is_known_part parts (part ∷ []) ∙ and_true (list_all is_known_part parts) (is_known_part part) all (ap (λ n. list_any (stands_for n) all_rules) be ∙ known),
  λ rule. h rule ∙ ap (λ b. if stands_for name rule then not t else b) (is rule)
      ∙ sym (fold-append (is_asked_after rule) false parts (part ∷ [])
      ∙ ap (λ n. if stands_for n rule then not (takes_away part) else is_asked parts rule) be
      ∙ ap (λ v. if stands_for name rule then not v else is_asked parts rule) te),
)

-- a part without a dash, and one with it
pub more_with : (parts : List (List ℕ)) (part : List ℕ) (set : RuleSet) (r : Option RuleSet) → ((rest : List ℕ) → part ≢ 45 ∷ rest) → IsSetByName true part set r → Listed parts (Some set) → Listed (parts ++ part ∷ []) r
more_with parts part set r plain a l = let d = undashed part plain in one_more false parts part part set r d.0 d.1 a l

pub more_without : (parts : List (List ℕ)) (part name : List ℕ) (set : RuleSet) (r : Option RuleSet) → part ≡ 45 ∷ name → IsSetByName false name set r → Listed parts (Some set) → Listed (parts ++ part ∷ []) r
more_without parts part name set r e a l = let d = dashed part name e in one_more true parts part name set r d.0 d.1 a l

-- ---- a whole list

pub unknown : (parts : List (List ℕ)) → list_all is_known_part parts ≡ false → Err UnknownRule ≡ rules_of_parts parts
unknown parts e = sym (ap (λ b. if b then (if list_any (is_asked parts) all_rules then Ok (filter (is_asked parts) all_rules) else Err NoneLeft) else Err UnknownRule) e)

known_by : (parts : List (List ℕ)) (any : Bool) → list_all is_known_part parts ≡ true → list_any (is_asked parts) all_rules ≡ any
    → (if any then Ok (filter (is_asked parts) all_rules) else Err NoneLeft) ≡ rules_of_parts parts
known_by parts any e f =
    sym (ap (λ b. if b then (if list_any (is_asked parts) all_rules then Ok (filter (is_asked parts) all_rules) else Err NoneLeft) else Err UnknownRule) e
    ∙ ap (λ b. if b then Ok (filter (is_asked parts) all_rules) else Err NoneLeft) f)

pub none_left : (parts : List (List ℕ)) (set : RuleSet) (any : Bool) → any ≡ list_any (holds set) all_rules → any ≡ false → Listed parts (Some set) → Err NoneLeft ≡ rules_of_parts parts
none_left parts set any e none l = known_by parts false l.0 (any_of set (is_asked parts) any false e l.1 none)

pub some_left : (parts : List (List ℕ)) (set : RuleSet) (any : Bool) → any ≡ list_any (holds set) all_rules → any ≡ true → Listed parts (Some set) → Ok (rules_of set) ≡ rules_of_parts parts
some_left parts set any e some l = ap Ok (filter_same (holds set) (is_asked parts) all_rules l.1) ∙ known_by parts true l.0 (any_of set (is_asked parts) any true e l.1 some)

-- ---- the first part that names no rule

pub none_yet : {A : Type 0} (p : A → Bool) (xs ys : List A) (x : A) → find p xs ≡ None → p x ≡ false → xs ++ x ∷ [] ≡ ys → find p ys ≡ None
none_yet p xs ys x none fails is = ap (find p) (sym is) ∙ find-append p xs (x ∷ []) ∙ ap (λ o. option_or o (find p (x ∷ []))) none ∙ ap (λ b. cond b (Some x) None) fails

first_here : {A : Type 0} (p : A → Bool) (xs ys : List A) (x : A) → find p xs ≡ None → p x ≡ true → xs ++ x ∷ [] ≡ ys → find p ys ≡ Some x
first_here p xs ys x none holds_it is = ap (find p) (sym is) ∙ find-append p xs (x ∷ []) ∙ ap (λ o. option_or o (find p (x ∷ []))) none ∙ ap (λ b. cond b (Some x) None) holds_it

pub found_first : {A : Type 0} (p : A → Bool) (all : List A) (n : ℕ) (x : A) → find p (take n all) ≡ None → p x ≡ true → take n all ++ x ∷ [] ≡ take (n + 1) all → Some x ≡ find p all
found_first p all n x none holds_it is =
    sym (ap (find p) (sym (take-append-drop (n + 1) all)) ∙ find-append p (take (n + 1) all) (drop (n + 1) all) ∙ ap (λ o. option_or o (find p (drop (n + 1) all))) (first_here p (take n all) (take (n + 1) all) x none holds_it is))
