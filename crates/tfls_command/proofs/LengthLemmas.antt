-- The length in a field.
use Rattle.std.proofs.Common.{◌≡◌, ◌∙◌, ◌<◌, ◌≤◌, ◌+◌, ◌-◌, ◌*◌, ◌∷◌, [], ℕ, zero, suc, Bool, true, false, List, Some, None, ap, arith, drop, get_or, length, refl, sym, take, map}
use Rattle.std.proofs.Math.Numerals.{one-add}
use Rattle.std.proofs.lemmas.Bool.{and_from, and_parts, and_right, cond-false, cond-true, le-leb, le-ltb, leb-true, lt-leb, lt-ltb}
use Rattle.std.proofs.lemmas.Bool.Decides.{same_from_decides}
use Rattle.std.proofs.lemmas.List.{drop_all, drop_more}
use Rattle.std.proofs.lemmas.Slice.Eq.{bytes_eq-Decides}
use Rattle.std.specs.Char.{digit_value, is_ascii_digit, to_ascii_lowercase}
use Rattle.std.specs.List.{list_all, prefix_len}
use Rattle.std.specs.Prelude.{◌&&◌, ◌↔◌, IsTrue, bytes_eq, cond, nat_le, nat_lt}
use Rattle.std.specs.Str.{str_eq_ignore_ascii_case}
use Rattle.std.specs.Str.Parse.{digits_value, digits_value_after}
use Rattle.tfls_command.specs.Frames.{body_length, max_body}
use Rattle.tfls_command.proofs.HeadLemmas.{if_false, if_true}

pub same_letters : (one other : List ℕ) (r : Bool) → (IsTrue r ↔ (map to_ascii_lowercase one ≡ map to_ascii_lowercase other)) → r ≡ str_eq_ignore_ascii_case one other
same_letters one other r h = same_from_decides r (bytes_eq (map to_ascii_lowercase one) (map to_ascii_lowercase other)) h (bytes_eq-Decides (map to_ascii_lowercase one) (map to_ascii_lowercase other))

digit_is : (d : ℕ) → 48 ≤ d → d ≤ 57 → digit_value d ≡ d - 48
digit_is d low high =
    let below : d < 58 = omega arith in
    cond-false (nat_lt d 48) 36 (cond (nat_lt d 58) (d - 48) (cond (nat_lt d 65) 36 (cond (nat_lt d 91) (d - 55) (cond (nat_lt d 97) 36 (cond (nat_lt d 123) (d - 87) 36))))) (le-ltb d 48 low)
    ∙ cond-true (nat_lt d 58) (d - 48) (cond (nat_lt d 65) 36 (cond (nat_lt d 91) (d - 55) (cond (nat_lt d 97) 36 (cond (nat_lt d 123) (d - 87) 36)))) (lt-ltb d 58 below)

pub digit_at : (digits : List ℕ) (at : ℕ) → IsTrue (list_all is_ascii_digit digits) → at < length digits → (48 ≤ get_or digits at 0) × (get_or digits at 0 ≤ 57)
digit_at [] at h lt = absurd (omega (arith, lt))
digit_at (d ∷ ds) zero h lt =
    let w = and_parts (is_ascii_digit d) (list_all is_ascii_digit ds) h in
    let v = and_parts (nat_le 48 d) (nat_le d 57) w.0 in
    (leb-true 48 d v.0, leb-true d 57 v.1)
digit_at (d ∷ ds) (suc at) h lt =
    let w = and_parts (is_ascii_digit d) (list_all is_ascii_digit ds) h in
    digit_at ds at w.1 (omega (arith, lt))

pub taken_all : (p : ℕ → Bool) (xs : List ℕ) → IsTrue (list_all p (take (prefix_len p xs) xs))
taken_all p [] = refl
taken_all p (x ∷ xs) = by (taken_all p xs) (p x) refl
  where
    by : IsTrue (list_all p (take (prefix_len p xs) xs)) → (t : Bool) → p x ≡ t → list_all p (take (cond t (1 + prefix_len p xs) 0) (x ∷ xs)) ≡ true
    by ih true e = ap (λ (n : ℕ). list_all p (take n (x ∷ xs))) (one-add (prefix_len p xs)) ∙ and_from (p x) (list_all p (take (prefix_len p xs) xs)) e ih
    by ih false e = refl

-- digits, one by one
pub digits_go : (digits : List ℕ) (at n : ℕ) → IsTrue (list_all is_ascii_digit digits) → at < length digits
    → digits_value_after 10 n (drop at digits) ≡ digits_value_after 10 (n * 10 + (get_or digits at 0 - 48)) (drop (at + 1) digits)
digits_go digits at n all lt =
    let d = digit_at digits at all lt in
    ap (digits_value_after 10 n) (drop_more digits at 0 lt)
    ∙ ap (λ (v : ℕ). digits_value_after 10 (n * 10 + v) (drop (at + 1) digits)) (digit_is (get_or digits at 0) d.0 d.1)

digits_end : (digits : List ℕ) (at n : ℕ) → length digits ≤ at → digits_value_after 10 n (drop at digits) ≡ n
digits_end digits at n le = ap (digits_value_after 10 n) (drop_all at digits le)

digits_grow : (n : ℕ) (digits : List ℕ) → n ≤ digits_value_after 10 n digits
digits_grow n [] = omega arith
digits_grow n (d ∷ ds) = omega (arith, digits_grow (n * 10 + digit_value d) ds)

-- the digits so far are too many
pub length_over : (digits : List ℕ) (at n : ℕ) → digits_value_after 10 n (drop at digits) ≡ digits_value 10 digits → max_body < n → body_length digits ≡ None
length_over digits at n so_far over =
    let more : max_body < digits_value 10 digits = omega (arith, so_far, over, digits_grow n (drop at digits)) in
    if_false (nat_lt 0 (length digits) && nat_le (digits_value 10 digits) max_body) (Some (digits_value 10 digits)) None (and_right (nat_lt 0 (length digits)) (nat_le (digits_value 10 digits) max_body) (lt-leb (digits_value 10 digits) max_body more))

-- all digits were read
pub length_is : (digits : List ℕ) (at n : ℕ) → digits_value_after 10 n (drop at digits) ≡ digits_value 10 digits → length digits ≤ at → 0 < length digits → n ≤ max_body → body_length digits ≡ Some n
length_is digits at n so_far le some small =
    let is : n ≡ digits_value 10 digits = sym (digits_end digits at n le) ∙ so_far in
    let fits : digits_value 10 digits ≤ max_body = omega (arith, is, small) in
    if_true (nat_lt 0 (length digits) && nat_le (digits_value 10 digits) max_body) (Some (digits_value 10 digits)) None (and_from (nat_lt 0 (length digits)) (nat_le (digits_value 10 digits) max_body) (lt-ltb 0 (length digits) some) (le-leb (digits_value 10 digits) max_body fits))
    ∙ ap Some (sym is)
