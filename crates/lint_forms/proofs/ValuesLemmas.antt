-- Values in turn, and the tokens of their array.
use Rattle.std.proofs.Common.{◌≡◌, ◌∙◌, ◌+◌, ◌<◌, ◌++◌, ◌∷◌, ◌||◌, [], ℕ, Bool, true, false, List, ap, append-nil, append_assoc, flat_map, fold, get_or, length, refl, sym, take}
use Rattle.std.proofs.lemmas.List.{take_more}
use Rattle.std.proofs.lemmas.List.Concat.{flat_map-append}
use Rattle.std.proofs.lemmas.List.Sums.{fold-append}
use Rattle.json.specs.Json.{Items, Json, Members, array, boolean, item, member, no_items, no_members, null, number, object, string}
use Rattle.json.specs.Print.{ends, print, print_from}
use Rattle.json.specs.Token.{Token, end_array}
use Rattle.json.specs.Tree.{items_tokens, json_tokens, members_tokens}
use Rattle.json.proofs.Printed.Tokens.{print_from-append}
use Rattle.lint_forms.specs.JsonValues.{json_items}
use Rattle.lint_forms.specs.Values.{comma, array_text}

abbrev pub has_values : List Json → Bool
has_values [] = false
has_values (j ∷ js) = true

-- ---- texts

pub values-append : (b : Bool) (js ks : List Json) → array_text b (js ++ ks) ≡ array_text b js ++ array_text (b || has_values js) ks
values-append false [] ks = refl
values-append true [] ks = refl
values-append false (j ∷ js) ks = ap (λ l. print (json_tokens j) ++ l) (values-append true js ks) ∙ sym (append_assoc (print (json_tokens j)) (array_text true js) (array_text true ks))
values-append true (j ∷ js) ks = ap (λ l. 44 ∷ (print (json_tokens j) ++ l)) (values-append true js ks) ∙ ap (λ l. 44 ∷ l) (sym (append_assoc (print (json_tokens j)) (array_text true js) (array_text true ks)))

pub has_values-append : (js ks : List Json) → has_values (js ++ ks) ≡ (has_values js || has_values ks)
has_values-append [] ks = refl
has_values-append (j ∷ js) ks = refl

one_mapped : {A : Type 0} (f : A → List Json) (xs : List A) (x : A) → flat_map f (xs ++ x ∷ []) ≡ flat_map f xs ++ f x
one_mapped f xs x = flat_map-append f xs (x ∷ []) ∙ ap (λ l. flat_map f xs ++ l) (append-nil (f x))

-- more values, for one more entry
pub grown : {A : Type 0} (f : A → List Json) (b c : Bool) (t u v : List ℕ) (xs : List A) (x : A)
    → u ≡ t ++ array_text b (flat_map f xs) → c ≡ (b || has_values (flat_map f xs)) → v ≡ u ++ array_text c (f x) → v ≡ t ++ array_text b (flat_map f (xs ++ x ∷ []))
grown f b c t u v xs x before goes more =
    more ∙ ap (λ l. l ++ array_text c (f x)) before ∙ ap (λ d. (t ++ array_text b (flat_map f xs)) ++ array_text d (f x)) goes
    ∙ append_assoc t (array_text b (flat_map f xs)) (array_text (b || has_values (flat_map f xs)) (f x))
    ∙ ap (λ l. t ++ l) (sym (values-append b (flat_map f xs) (f x)))
    ∙ ap (λ l. t ++ array_text b l) (sym (one_mapped f xs x))

pub grown_at : {A : Type 0} (f : A → List Json) (b c : Bool) (t u v : List ℕ) (xs : List A) (n : ℕ) (x : A) → n < length xs → x ≡ get_or xs n x
    → u ≡ t ++ array_text b (flat_map f (take n xs)) → c ≡ (b || has_values (flat_map f (take n xs))) → v ≡ u ++ array_text c (f x)
    → v ≡ t ++ array_text b (flat_map f (take (n + 1) xs))
grown_at f b c t u v xs n x within is before goes more =
    grown f b c t u v (take n xs) x before goes more
    ∙ ap (λ l. t ++ array_text b (flat_map f l)) (sym (take_more xs n x within ∙ ap (λ y. take n xs ++ y ∷ []) (sym is)))

pub or_nothing : (b : Bool) → b ≡ (b || false)
or_nothing false = refl
or_nothing true = refl

pub or_true : (b : Bool) → true ≡ (b || true)
or_true false = refl
or_true true = refl

or_assoc : (a b c : Bool) → ((a || b) || c) ≡ (a || (b || c))
or_assoc false b c = refl
or_assoc true b c = refl

pub goes_further : {A : Type 0} (f : A → List Json) (b c d e : Bool) (xs : List A) (x : A)
    → c ≡ (b || has_values (flat_map f xs)) → e ≡ has_values (f x) → d ≡ (c || e) → d ≡ (b || has_values (flat_map f (xs ++ x ∷ [])))
goes_further f b c d e xs x goes shows is =
    is ∙ ap (λ k. k || e) goes ∙ ap (λ k. (b || has_values (flat_map f xs)) || k) shows ∙ or_assoc b (has_values (flat_map f xs)) (has_values (f x))
    ∙ ap (λ k. b || k) (sym (has_values-append (flat_map f xs) (f x))) ∙ ap (λ l. b || has_values l) (sym (one_mapped f xs x))

pub goes_further_at : {A : Type 0} (f : A → List Json) (b c d e : Bool) (xs : List A) (n : ℕ) (x : A) → n < length xs
    → c ≡ (b || has_values (flat_map f (take n xs))) → e ≡ has_values (f (get_or xs n x)) → d ≡ (c || e) → d ≡ (b || has_values (flat_map f (take (n + 1) xs)))
goes_further_at f b c d e xs n x within goes shows is =
    goes_further f b c d e (take n xs) (get_or xs n x) goes shows is ∙ ap (λ l. b || has_values (flat_map f l)) (sym (take_more xs n x within))

-- ---- tokens

abbrev ends_from : Bool → List Token → Bool
ends_from b ts = fold (λ _ t. ends t) b ts

mutual
  ends-json : (b : Bool) (j : Json) → ends_from b (json_tokens j) ≡ true
  ends-json b null = refl
  ends-json b (boolean x) = refl
  ends-json b (number s) = refl
  ends-json b (string s) = refl
  ends-json b (array js) = ends-items false js
  ends-json b (object ms) = ends-members false ms

  ends-items : (b : Bool) (js : Items) → ends_from b (items_tokens js) ≡ true
  ends-items b no_items = refl
  ends-items b (item j js) = fold-append (λ _ t. ends t) b (json_tokens j) (items_tokens js) ∙ ends-items (ends_from b (json_tokens j)) js

  ends-members : (b : Bool) (ms : Members) → ends_from b (members_tokens ms) ≡ true
  ends-members b no_members = refl
  ends-members b (member k j ms) = fold-append (λ _ t. ends t) false (json_tokens j) (members_tokens ms) ∙ ends-members (ends_from false (json_tokens j)) ms

-- a value after another one, or as the first
print-first : (b : Bool) (j : Json) → print_from b (json_tokens j) ≡ comma b ++ print (json_tokens j)
unfolding print_from
print-first false j = refl
print-first true null = refl
print-first true (boolean x) = refl
print-first true (number s) = refl
print-first true (string s) = refl
print-first true (array js) = refl
print-first true (object ms) = refl

print-end : (b : Bool) (ts : List Token) → print_from b (end_array ∷ ts) ≡ print (end_array ∷ ts)
unfolding print_from
print-end false ts = refl
print-end true ts = refl

-- THE TEXT of the tokens of an array from its first value on
pub print-values : (b : Bool) (js : List Json) (ts : List Token) → print_from b (items_tokens (json_items js) ++ ts) ≡ array_text b js ++ print (end_array ∷ ts)
print-values b [] ts = print-end b ts
print-values b (j ∷ js) ts =
    let us = items_tokens (json_items js) ++ ts in
    ap (print_from b) (append_assoc (json_tokens j) (items_tokens (json_items js)) ts)
    ∙ print_from-append b (json_tokens j) us
    ∙ ap (λ l. l ++ print_from (ends_from b (json_tokens j)) us) (print-first b j)
    ∙ ap (λ c. (comma b ++ print (json_tokens j)) ++ print_from c us) (ends-json b j)
    ∙ ap (λ l. (comma b ++ print (json_tokens j)) ++ l) (print-values true js ts)
    ∙ append_assoc (comma b) (print (json_tokens j)) (array_text true js ++ print (end_array ∷ ts))
    ∙ ap (λ l. comma b ++ l) (sym (append_assoc (print (json_tokens j)) (array_text true js) (print (end_array ∷ ts))))
    ∙ sym (append_assoc (comma b) (print (json_tokens j) ++ array_text true js) (print (end_array ∷ ts)))
