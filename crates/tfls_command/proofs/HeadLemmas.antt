-- The bytes before a mark, and the fields of a head.
use Rattle.std.proofs.Common.{◌≡◌, ◌∙◌, ◌<◌, ◌≤◌, ◌+◌, ◌∷◌, [], ℕ, suc, Bool, true, false, List, Option, Some, None, ap, arith, drop, get_or, length, refl, subst, sym, take, true≢false}
use Rattle.std.proofs.lemmas.List.{drop-drop, drop_all, drop_more}
use Rattle.std.proofs.lemmas.Option.{none-some, same_Some}
use Rattle.std.specs.List.{onto_first, starts_with}
use Rattle.std.specs.Option.{option_map}
use Rattle.std.specs.Prelude.{◌&&◌, ◌==◌, if◌then◌else◌, nat_eq}
use Rattle.tfls_command.specs.Frames.{bytes_before, field_value, fields, first_length, is_length_field, line_end, value_length}

pub if_false : {X : Type 0} (b : Bool) (x y : X) → b ≡ false → (if b then x else y) ≡ y
if_false true x y e = absurd (true≢false e)
if_false false x y e = refl

pub if_true : {X : Type 0} (b : Bool) (x y : X) → b ≡ true → (if b then x else y) ≡ x
if_true true x y e = refl
if_true false x y e = absurd (true≢false (sym e))

-- n bytes before
abbrev pub beyond : ℕ → Option ℕ → Option ℕ
beyond n o = option_map (λ k. n + k) o

beyond_none : (o : Option ℕ) → beyond 0 o ≡ o
beyond_none None = refl
beyond_none (Some k) = ap Some (omega arith)

beyond_one : (n : ℕ) (o : Option ℕ) → beyond n (option_map suc o) ≡ beyond (n + 1) o
beyond_one n None = refl
beyond_one n (Some k) = ap Some (omega arith)

pub before_starts : (mark bytes : List ℕ) → bytes_before mark bytes ≡ beyond 0 (bytes_before mark (drop 0 bytes))
before_starts mark bytes = sym (beyond_none (bytes_before mark bytes))

pub before_goes : (mark bytes : List ℕ) (at : ℕ) → at < length bytes → starts_with nat_eq (drop at bytes) mark ≡ false → bytes_before mark bytes ≡ beyond at (bytes_before mark (drop at bytes)) → bytes_before mark bytes ≡ beyond (at + 1) (bytes_before mark (drop (at + 1) bytes))
before_goes mark bytes at lt not so_far =
    let here = drop_more bytes at 0 lt in
    so_far ∙ ap (λ l. beyond at (bytes_before mark l)) here
    ∙ ap (beyond at) (if_false (starts_with nat_eq (get_or bytes at 0 ∷ drop (at + 1) bytes) mark) (Some 0) (option_map suc (bytes_before mark (drop (at + 1) bytes))) (sym (ap (λ l. starts_with nat_eq l mark) here) ∙ not))
    ∙ beyond_one at (bytes_before mark (drop (at + 1) bytes))

pub before_found : (mark bytes : List ℕ) (at : ℕ) → at < length bytes → starts_with nat_eq (drop at bytes) mark ≡ true → bytes_before mark bytes ≡ beyond at (bytes_before mark (drop at bytes)) → bytes_before mark bytes ≡ Some at
before_found mark bytes at lt is so_far =
    let here = drop_more bytes at 0 lt in
    so_far ∙ ap (λ l. beyond at (bytes_before mark l)) here
    ∙ ap (beyond at) (if_true (starts_with nat_eq (get_or bytes at 0 ∷ drop (at + 1) bytes) mark) (Some 0) (option_map suc (bytes_before mark (drop (at + 1) bytes))) (sym (ap (λ l. starts_with nat_eq l mark) here) ∙ is))
    ∙ ap Some (omega arith)

pub before_none : (mark bytes : List ℕ) (at : ℕ) → length bytes ≤ at → bytes_before mark bytes ≡ beyond at (bytes_before mark (drop at bytes)) → bytes_before mark bytes ≡ None
before_none mark bytes at le so_far = so_far ∙ ap (λ l. beyond at (bytes_before mark l)) (drop_all at bytes le)

some-none : (n : ℕ) → Some n ≡ None → ⊥
some-none n e = none-some n (sym e)

single : (t : Bool) → if◌then◌else◌ {A = Option ℕ} (t && false) (Some 0) None ≡ None
single true = refl
single false = refl

-- a field ends at the first CR LF
pub fields_cut : (text : List ℕ) (n : ℕ) → bytes_before line_end text ≡ Some n → fields text ≡ take n text ∷ fields (drop (n + 2) text)
fields_cut [] n h = absurd (none-some n h)
fields_cut (b ∷ []) n h = absurd (none-some n (sym (single (13 == b)) ∙ h))
fields_cut (b ∷ c ∷ bs) n h = by (λ k e. fields_cut (c ∷ bs) k e) (starts_with nat_eq (b ∷ c ∷ bs) line_end) h
  where
    further : ((k : ℕ) → bytes_before line_end (c ∷ bs) ≡ Some k → fields (c ∷ bs) ≡ take k (c ∷ bs) ∷ fields (drop (k + 2) (c ∷ bs))) → (o : Option ℕ) → bytes_before line_end (c ∷ bs) ≡ o → option_map suc o ≡ Some n → onto_first b (fields (c ∷ bs)) ≡ take n (b ∷ c ∷ bs) ∷ fields (drop (n + 2) (b ∷ c ∷ bs))
    further ih None e g = absurd (none-some n g)
    further ih (Some k) e g =
        let is : suc k ≡ n = same_Some (suc k) n g in
        let step : suc (k + 2) ≡ suc k + 2 = omega arith in
        subst (λ (m : ℕ). onto_first b (fields (c ∷ bs)) ≡ take m (b ∷ c ∷ bs) ∷ fields (drop (m + 2) (b ∷ c ∷ bs))) is
        (ap (onto_first b) (ih k e) ∙ ap (λ (j : ℕ). (b ∷ take k (c ∷ bs)) ∷ fields (drop j (b ∷ c ∷ bs))) step)

    by : ((k : ℕ) → bytes_before line_end (c ∷ bs) ≡ Some k → fields (c ∷ bs) ≡ take k (c ∷ bs) ∷ fields (drop (k + 2) (c ∷ bs))) → (t : Bool) → (if t then Some 0 else option_map suc (bytes_before line_end (c ∷ bs))) ≡ Some n → (if t then [] ∷ fields bs else onto_first b (fields (c ∷ bs))) ≡ take n (b ∷ c ∷ bs) ∷ fields (drop (n + 2) (b ∷ c ∷ bs))
    by ih true g = subst (λ (m : ℕ). ([] ∷ fields bs) ≡ take m (b ∷ c ∷ bs) ∷ fields (drop (m + 2) (b ∷ c ∷ bs))) (same_Some 0 n g) refl
    by ih false g = further ih (bytes_before line_end (c ∷ bs)) refl g

-- or at the head's end
pub fields_whole : (text : List ℕ) → bytes_before line_end text ≡ None → fields text ≡ text ∷ []
fields_whole [] h = refl
fields_whole (b ∷ []) h = refl
fields_whole (b ∷ c ∷ bs) h = by (λ e. fields_whole (c ∷ bs) e) (starts_with nat_eq (b ∷ c ∷ bs) line_end) h
  where
    further : (bytes_before line_end (c ∷ bs) ≡ None → fields (c ∷ bs) ≡ (c ∷ bs) ∷ []) → (o : Option ℕ) → bytes_before line_end (c ∷ bs) ≡ o → option_map suc o ≡ None → onto_first b (fields (c ∷ bs)) ≡ (b ∷ c ∷ bs) ∷ []
    further ih None e g = ap (onto_first b) (ih e)
    further ih (Some k) e g = absurd (some-none (suc k) g)

    by : (bytes_before line_end (c ∷ bs) ≡ None → fields (c ∷ bs) ≡ (c ∷ bs) ∷ []) → (t : Bool) → (if t then Some 0 else option_map suc (bytes_before line_end (c ∷ bs))) ≡ None → (if t then [] ∷ fields bs else onto_first b (fields (c ∷ bs))) ≡ (b ∷ c ∷ bs) ∷ []
    by ih true g = absurd (some-none 0 g)
    by ih false g = further ih (bytes_before line_end (c ∷ bs)) refl g

-- the fields, one after another
pub told_goes : (head : List ℕ) (start len : ℕ) → bytes_before line_end (drop start head) ≡ Some len → is_length_field (take len (drop start head)) ≡ false
    → first_length (fields (drop start head)) ≡ first_length (fields (drop (start + (len + 2)) head))
told_goes head start len cut not =
    ap first_length (fields_cut (drop start head) len cut)
    ∙ if_false (is_length_field (take len (drop start head))) (value_length (field_value (take len (drop start head)))) (first_length (fields (drop (len + 2) (drop start head)))) not
    ∙ ap (λ l. first_length (fields l)) (drop-drop (len + 2) start head)

pub told_found : (head : List ℕ) (start len : ℕ) → bytes_before line_end (drop start head) ≡ Some len → is_length_field (take len (drop start head)) ≡ true
    → first_length (fields (drop start head)) ≡ value_length (field_value (take len (drop start head)))
told_found head start len cut is =
    ap first_length (fields_cut (drop start head) len cut)
    ∙ if_true (is_length_field (take len (drop start head))) (value_length (field_value (take len (drop start head)))) (first_length (fields (drop (len + 2) (drop start head)))) is

pub told_last : (head : List ℕ) (start : ℕ) → bytes_before line_end (drop start head) ≡ None → first_length (fields (drop start head)) ≡ first_length (drop start head ∷ [])
told_last head start none = ap first_length (fields_whole (drop start head) none)
