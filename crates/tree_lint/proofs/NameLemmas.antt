-- The names in a silencing comment.
use Rattle.std.proofs.Common.{◌≡◌, ◌∙◌, ◌∷◌, ◌++◌, [], ℕ, Bool, true, false, List, ap, append_assoc, append-nil, refl, sym}
use Rattle.std.specs.Prelude.{◌||◌, Option, Some, None, codes, filter, find, flat_map, not, if◌then◌else◌}
use Rattle.std.specs.List.{list_any}
use Rattle.std.specs.Option.{is_some}
use Rattle.std.specs.Str.{bytes_eq}
use Rattle.std.proofs.lemmas.Grind.{flat_map-append}
use Rattle.file_tree.specs.Quotes.{in_quotes}
use Rattle.rule_set.specs.Rules.{all_rules, is_rule, rule_name}
use Rattle.rule_set.specs.declared.rule.Rule.{Rule}
use Rattle.rule_set.specs.declared.rule.Rule.TheVariants.{CommentSyntax, DeprecatedIndex, DeprecatedInterpolation, DocumentedOutputs, DocumentedVariables, ModulePinnedSource, ModuleVersion, NamingConvention, TypedVariables, UnusedDeclarations}
use Rattle.tf_facts.specs.Silencing.{names}
use Rattle.tf_facts.proofs.NamedRuleLemmas.{names_none, names_one}
use Rattle.tree_lint.specs.CommentTexts.{is_known, or_name, unknown_text}
use Rattle.tree_lint.specs.Inner.NameTexts.{with_name, with_unknown}

-- ---- names of rules

any_same : (p q : Rule → Bool) (rs : List Rule) → ((r : Rule) → p r ≡ q r) → list_any p rs ≡ list_any q rs
any_same p q [] h = refl
any_same p q (r ∷ rs) h = λ i. h r i || any_same p q rs h i

none_of : (p : Rule → Bool) (rs : List Rule) → ((r : Rule) → p r ≡ false) → list_any p rs ≡ false
none_of p [] h = refl
none_of p (r ∷ rs) h = ap (λ b. b || list_any p rs) (h r) ∙ none_of p rs h

-- each rule is one of the ten
is_one : (found : Rule) → list_any (λ rule. is_rule rule found) all_rules ≡ true
is_one CommentSyntax = refl
is_one DeprecatedIndex = refl
is_one DeprecatedInterpolation = refl
is_one DocumentedOutputs = refl
is_one DocumentedVariables = refl
is_one ModulePinnedSource = refl
is_one ModuleVersion = refl
is_one NamingConvention = refl
is_one TypedVariables = refl
is_one UnusedDeclarations = refl

pub known_as_all : (name : List ℕ) → bytes_eq name (codes "all") ≡ true → true ≡ is_known name
known_as_all name e = sym (ap (λ b. list_any (λ rule. b || bytes_eq name (rule_name rule)) all_rules) e)

pub known_by : (name : List ℕ) (o : Option Rule) → bytes_eq name (codes "all") ≡ false → o ≡ find (λ rule. bytes_eq (rule_name rule) name) all_rules → is_some o ≡ is_known name
known_by name (Some found) other is = sym (is_one found) ∙ any_same (λ rule. is_rule rule found) (λ rule. names rule name) all_rules (names_one name found other is)
known_by name None other is = sym (none_of (λ rule. names rule name) all_rules (names_none name other is))

-- ---- another name

abbrev unknown : List ℕ → Bool
unknown name = not (is_known name)

named_more : (ns : List (List ℕ)) (name : List ℕ) → unknown_text (ns ++ name ∷ []) ≡ with_name (unknown_text ns) name
named_more [] name = ap (λ l. codes "no rule is called " ++ l) (append-nil (in_quotes name))
named_more (n ∷ ns) name =
    let front = codes "no rule is called " in
    let more = flat_map or_name ns in
    ap (λ l. front ++ (in_quotes n ++ l)) (flat_map-append or_name ns (name ∷ []) ∙ ap (λ l. more ++ l) (append-nil (or_name name)))
    ∙ sym (append_assoc (front ++ (in_quotes n ++ more)) (codes " or ") (in_quotes name) ∙ append_assoc front (in_quotes n ++ more) (or_name name) ∙ ap (λ l. front ++ l) (append_assoc (in_quotes n) more (or_name name)))

kept_more : (p : List ℕ → Bool) (ns ms : List (List ℕ)) → filter p (ns ++ ms) ≡ filter p ns ++ filter p ms
kept_more p [] ms = refl
kept_more p (n ∷ ns) ms = by (p n) (kept_more p ns ms)
  where
    by : (b : Bool) → filter p (ns ++ ms) ≡ filter p ns ++ filter p ms → (if b then n ∷ filter p (ns ++ ms) else filter p (ns ++ ms)) ≡ (if b then n ∷ filter p ns else filter p ns) ++ filter p ms
    by true e = ap (λ l. n ∷ l) e
    by false e = e

pub unknown_more : (ns : List (List ℕ)) (name : List ℕ) → unknown_text (filter unknown (ns ++ name ∷ [])) ≡ with_unknown (unknown_text (filter unknown ns)) name
unknown_more ns name = ap unknown_text (kept_more unknown ns (name ∷ [])) ∙ by (is_known name)
  where
    by : (b : Bool) → unknown_text (filter unknown ns ++ (if not b then name ∷ [] else [])) ≡ (if b then unknown_text (filter unknown ns) else with_name (unknown_text (filter unknown ns)) name)
    by true = ap unknown_text (append-nil (filter unknown ns))
    by false = named_more (filter unknown ns) name
