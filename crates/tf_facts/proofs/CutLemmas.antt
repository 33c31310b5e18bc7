-- A text in parts, cut at one byte.
use Rattle.std.proofs.Common.{◌≡◌, ◌∙◌, ap, ap₂, sym, refl, ℕ, suc, ◌+◌, ◌<◌, ◌≤◌, Bool, true, false, cond, List, [], ◌∷◌, ◌++◌, append_assoc, length, take, drop, drop-cons, get_or, arith}
use Rattle.std.specs.Prelude.{◌==◌, ◌||◌, not, Option, Some, None}
use Rattle.std.specs.List.{before_first, list_any, onto_first, prefix_len, slice_split}
use Rattle.std.specs.Option.{is_some}
use Rattle.std.proofs.Math.Seq.{take-add}
use Rattle.std.proofs.lemmas.List.{append-nil, drop_all, take_all, take_more}
use Rattle.std.proofs.lemmas.List.Folds.{list_any-append}
use denote.Ref.{Bor}
use Rattle.tf_facts.specs.Inner.Cuts.{after_cut, parts_of}
use Rattle.tf_facts.specs.Sources.{is_address}
use Rattle.tf_facts.specs.declared.cut.Cut.{Cut}

-- the parts, with these bytes before the first
abbrev pub prepended : List ℕ → List (List ℕ) → List (List ℕ)
prepended xs [] = xs ∷ []
prepended xs (part ∷ parts) = (xs ++ part) ∷ parts

prepended-nil : (p : ℕ → Bool) (xs : List ℕ) → prepended [] (slice_split p xs) ≡ slice_split p xs
prepended-nil p [] = refl
prepended-nil p (x ∷ xs) = by (p x) (slice_split p xs)
  where
    by : (b : Bool) (parts : List (List ℕ)) → prepended [] (cond b ([] ∷ parts) (onto_first x parts)) ≡ cond b ([] ∷ parts) (onto_first x parts)
    by true parts = refl
    by false [] = refl
    by false (part ∷ parts) = refl

prepended-onto : (xs : List ℕ) (x : ℕ) (parts : List (List ℕ)) → prepended xs (onto_first x parts) ≡ prepended (xs ++ x ∷ []) parts
prepended-onto xs x [] = refl
prepended-onto xs x (part ∷ parts) = ap (λ r. r ∷ parts) (sym (append_assoc xs (x ∷ []) part))

-- the parts of the text, after `n` bytes at its front are passed
abbrev pub ArePassed : List ℕ → ℕ → ℕ → Type 0
ArePassed text byte n = slice_split (λ b. b == byte) text ≡ prepended (take n text) (slice_split (λ b. b == byte) (drop n text))

pub begins : (text : List ℕ) (byte : ℕ) → ArePassed text byte 0
begins text byte = sym (prepended-nil (λ b. b == byte) text)

module _ (text : List ℕ) (byte n : ℕ) (h : n < length text) where
  here : drop n text ≡ get_or text n 0 ∷ drop (n + 1) text
  here = let m : suc n ≡ n + 1 = omega arith in drop-cons text n 0 h ∙ ap (λ j. get_or text n 0 ∷ drop j text) m

  upto : take (n + 1) text ≡ take n text ++ get_or text n 0 ∷ []
  upto = take-add n 1 text ∙ ap (λ r. take n text ++ take 1 r) here

  split_here : slice_split (λ b. b == byte) (drop n text) ≡ cond (get_or text n 0 == byte) ([] ∷ slice_split (λ b. b == byte) (drop (n + 1) text)) (onto_first (get_or text n 0) (slice_split (λ b. b == byte) (drop (n + 1) text)))
  split_here = ap (slice_split (λ b. b == byte)) here

  pub passes : (get_or text n 0 == byte) ≡ false → ArePassed text byte n → ArePassed text byte (n + 1)
  passes other so =
      so
      ∙ ap (prepended (take n text)) (split_here ∙ ap (λ b. cond b ([] ∷ slice_split (λ c. c == byte) (drop (n + 1) text)) (onto_first (get_or text n 0) (slice_split (λ c. c == byte) (drop (n + 1) text)))) other)
      ∙ prepended-onto (take n text) (get_or text n 0) (slice_split (λ b. b == byte) (drop (n + 1) text))
      ∙ ap (λ r. prepended r (slice_split (λ b. b == byte) (drop (n + 1) text))) (sym upto)

pub ends : (text : List ℕ) (byte n : ℕ) → length text ≤ n → ArePassed text byte n → text ∷ [] ≡ slice_split (λ b. b == byte) text
ends text byte n past so =
    ap (λ r. r ∷ []) (sym (append-nil text))
    ∙ sym (so ∙ ap₂ (λ front rest. prepended front (slice_split (λ b. b == byte) rest)) (take_all n text past) (drop_all n text past))

-- ---- the first part

abbrev first_or_none : List (List ℕ) → List ℕ
first_or_none [] = []
first_or_none (part ∷ parts) = part

first_split : (p : ℕ → Bool) (xs : List ℕ) → first_or_none (slice_split p xs) ≡ before_first p xs
first_split p [] = refl
first_split p (x ∷ xs) = by (p x) (slice_split p xs) (first_split p xs)
  where
    longer : (n : ℕ) → x ∷ take n xs ≡ take (1 + n) (x ∷ xs)
    longer n = let e : suc n ≡ 1 + n = omega arith in ap (λ k. take k (x ∷ xs)) e

    by : (b : Bool) (parts : List (List ℕ)) → first_or_none parts ≡ before_first p xs → first_or_none (cond b ([] ∷ parts) (onto_first x parts)) ≡ take (cond (not b) (1 + prefix_len (λ y. not (p y)) xs) 0) (x ∷ xs)
    by true parts e = refl
    by false [] e = ap (λ r. x ∷ r) e ∙ longer (prefix_len (λ y. not (p y)) xs)
    by false (part ∷ parts) e = ap (λ r. x ∷ r) e ∙ longer (prefix_len (λ y. not (p y)) xs)

pub part_is : (text : List ℕ) (byte : ℕ) (k : Cut) → parts_of byte k ≡ slice_split (λ b. b == byte) text → k.part.now ≡ before_first (λ b. b == byte) text
part_is text byte k e = ap first_or_none e ∙ first_split (λ b. b == byte) text

-- ---- five or more parts are no address

pub rest_is : (text : List ℕ) (byte : ℕ) (k : Cut) (rest : Bor (List ℕ)) → k.rest ≡ Some rest → parts_of byte k ≡ slice_split (λ b. b == byte) text → slice_split (λ b. b == byte) text ≡ k.part.now ∷ slice_split (λ b. b == byte) rest.now
rest_is text byte k rest is e = sym e ∙ ap (λ o. k.part.now ∷ after_cut (λ (r : Bor (List ℕ)). r.now) byte o) is

abbrev HasPart : List (List ℕ) → Type 0
HasPart [] = ⊥
HasPart (part ∷ parts) = Unit {0}

has_part : (p : ℕ → Bool) (xs : List ℕ) → HasPart (slice_split p xs)
has_part p [] = tt
has_part p (x ∷ xs) = by (p x) (slice_split p xs)
  where
    by : (b : Bool) (parts : List (List ℕ)) → HasPart (cond b ([] ∷ parts) (onto_first x parts))
    by true parts = tt
    by false [] = tt
    by false (part ∷ parts) = tt

five : (a b c d : List ℕ) (byte : ℕ) (o : Option (Bor (List ℕ))) → is_some o ≡ true → is_address (a ∷ b ∷ c ∷ d ∷ after_cut (λ (r : Bor (List ℕ)). r.now) byte o) ≡ false
five a b c d byte None e = absurd (cc)
five a b c d byte (Some rest) e = by (slice_split (λ x. x == byte) rest.now) (has_part (λ x. x == byte) rest.now)
  where
    by : (parts : List (List ℕ)) → HasPart parts → is_address (a ∷ b ∷ c ∷ d ∷ parts) ≡ false
    by [] h = absurd h
    by (x ∷ xs) h = refl

pub too_many : (s1 s2 s3 s4 : List (List ℕ)) (a b c : List ℕ) (k : Cut) (byte : ℕ) → s1 ≡ a ∷ s2 → s2 ≡ b ∷ s3 → s3 ≡ c ∷ s4 → parts_of byte k ≡ s4 → is_some k.rest ≡ true → false ≡ is_address s1
too_many s1 s2 s3 s4 a b c k byte e1 e2 e3 e4 some =
    sym (ap is_address (e1 ∙ ap (λ r. a ∷ r) (e2 ∙ ap (λ r. b ∷ r) (e3 ∙ ap (λ r. c ∷ r) (sym e4)))) ∙ five a b c k.part.now byte k.rest some)

-- ---- one more part

or_false : (b : Bool) → (b || false) ≡ b
or_false true = refl
or_false false = refl

pub any_more : (q : List ℕ → Bool) (all : List (List ℕ)) (n : ℕ) (x : List ℕ) → n < length all → x ≡ get_or all n x → list_any q (take (n + 1) all) ≡ (list_any q (take n all) || q x)
any_more q all n x h is =
    ap (list_any q) (take_more all n x h) ∙ list_any-append q (take n all) (get_or all n x ∷ [])
    ∙ ap (λ b. list_any q (take n all) || b) (or_false (q (get_or all n x)) ∙ ap q (sym is))
