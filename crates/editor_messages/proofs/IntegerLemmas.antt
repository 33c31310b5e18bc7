-- Integers, as the JSON of the kit reads them and as the definitions do.
use Rattle.std.proofs.Common.{◌≡◌, ◌∙◌, ◌<◌, ◌^◌, ◌&&◌, ℕ, Bool, List, ap, cond, false, length, refl, sym, true}
use Rattle.std.specs.Prelude.{Option, Some, None, MatchOption, nat_lt, ok_or, option_and_then}
use Rattle.std.specs.Result.{OkIff}
use Rattle.std.specs.Str.{all_ascii_digits}
use Rattle.std.specs.Str.Parse.{IsNumeral, ParsesUnsigned, digits_value, without_leading_plus}
use Rattle.std.proofs.lemmas.Str.Parse.{IsNumeralModel, numerals_by_value, tells_all_ascii_digits}
use Rattle.std.proofs.lemmas.Bool.{and_from, and_parts, lt-ltb, ltb-true}
use Rattle.editor_messages.specs.Messages.{digits_number, integer_of}

digits_model : IsNumeralModel (λ ds. all_ascii_digits ds ≡ true) (digits_value 10)
digits_model = numerals_by_value (λ ds. all_ascii_digits ds ≡ true) tells_all_ascii_digits

-- the test of the definitions says what the JSON of the kit asks for
abbrev Passes : List ℕ → Type 0
Passes ds = IsNumeral 10 ds × (digits_value 10 ds < 2 ^ 64)

abbrev passes : List ℕ → Bool
passes ds = all_ascii_digits ds && (nat_lt 0 (length ds) && nat_lt (digits_value 10 ds) (2 ^ 64))

passes_if : (ds : List ℕ) → Passes ds → passes ds ≡ true
passes_if ds p =
    and_from _ _ (digits_model.from ds p.0.1) (and_from _ _ (lt-ltb 0 (length ds) p.0.0) (lt-ltb (digits_value 10 ds) (2 ^ 64) p.1))

if_passes : (ds : List ℕ) → passes ds ≡ true → Passes ds
if_passes ds e =
    let a = and_parts (all_ascii_digits ds) (nat_lt 0 (length ds) && nat_lt (digits_value 10 ds) (2 ^ 64)) e in
    let b = and_parts (nat_lt 0 (length ds)) (nat_lt (digits_value 10 ds) (2 ^ 64)) a.1 in
    ((ltb-true 0 (length ds) b.0, digits_model.to ds a.0), ltb-true (digits_value 10 ds) (2 ^ 64) b.1)

digits_seen : (r : Option ℕ) (ds s : List ℕ) → OkIff (ok_or r s) (Passes ds) (digits_value 10 ds) → r ≡ digits_number ds
digits_seen None ds s h = by (passes ds) refl
  where
    by : (b : Bool) → passes ds ≡ b → None ≡ cond b (Some (digits_value 10 ds)) None
    by true e = absurd (h (if_passes ds e))
    by false e = refl
digits_seen (Some n) ds s h = ap Some h.1 ∙ ap (λ b. cond b (Some (digits_value 10 ds)) None) (sym (passes_if ds h.0))

pub integer_seen : (r : Option ℕ) (o : Option (List ℕ)) → MatchOption o (r ≡ None) (λ s. ParsesUnsigned 64 10 s (ok_or r s)) → r ≡ option_and_then integer_of o
integer_seen r None h = h
integer_seen r (Some s) h = digits_seen r (without_leading_plus s) s h
