-- The requests of options: numbers, and a part of the files.
use Rattle.std.proofs.Common.{◌≡◌, ◌∙◌, ◌<◌, ◌≤◌, ◌^◌, ◌+◌, rules, arith, drop, ℕ, Bool, true, false, cond, List, [], Option, Some, None, length, ap, refl, sym}
use Rattle.std.proofs.lemmas.Bool.Decides.{nat_tests}
use Rattle.std.proofs.lemmas.List.{drop_all}
use Rattle.std.proofs.lemmas.Str.Parse.{IsNumeralModel, digits_value_short, numerals_by_value, parse_gives}
use Rattle.std.specs.Prelude.{◌&&◌, ◌==◌, Result, Ok, nat_le, nat_lt}
use Rattle.std.specs.Char.{is_ascii_digit}
use Rattle.std.specs.List.{after_first, before_first, list_all, position_or_len}
use Rattle.std.specs.Result.{result_ok}
use Rattle.std.specs.Str.Parse.{ParsesUnsigned, digits_value}
use Rattle.tree_words.specs.Line.{is_number, number_in, shard_by, shard_in}
use Rattle.tree_words.specs.declared.shard.Shard.{Shard}

-- ---- numbers

all_four : (a b c d : Bool) → (a && (b && (c && d))) ≡ true → (a ≡ true) × (b ≡ true) × (d ≡ true)
all_four false b c d e = absurd (cc)
all_four true false c d e = absurd (cc)
all_four true true false d e = absurd (cc)
all_four true true true false e = absurd (cc)
all_four true true true true e = (refl, refl, refl)

more_than_none : (n : ℕ) → nat_lt 0 n ≡ true → 0 < n
more_than_none n h = grind (arith, nat_tests)

five_at_most : (n : ℕ) → nat_le n 5 ≡ true → n ≤ 5
five_at_most n h = grind (arith, nat_tests)

own : IsNumeralModel (λ ds. list_all is_ascii_digit ds ≡ true) (digits_value 10)
own = numerals_by_value _ (search rules)

pub number_read : {E : Type 0} (text : List ℕ) (r : Result ℕ E) → ParsesUnsigned 32 10 text r → is_number text ≡ true → result_ok r ≡ number_in text
number_read text r h good =
    let parts = all_four _ _ _ _ good in
    let small : digits_value 10 text < 10 ^ 5 = digits_value_short own text 5 parts.2 (five_at_most (length text) parts.1) in
    let read : r ≡ Ok (digits_value 10 text) = parse_gives own 32 text r h parts.2 (more_than_none (length text) parts.0) (omega (arith, small)) in
    ap result_ok read ∙ ap (λ b. cond b (Some (digits_value 10 text)) None) (sym good)

-- ---- parts

pub shard_cut : (text number count : List ℕ) (n m : Option ℕ) (r : Option Shard) → r ≡ shard_by n m → n ≡ number_in number → m ≡ number_in count
    → number ≡ before_first (λ b. b == 47) text → count ≡ after_first (λ b. b == 47) text → r ≡ shard_in text
shard_cut text number count n m r by en em before after = by ∙ (λ i. shard_by (en i) (em i)) ∙ (λ i. shard_by (number_in (before i)) (number_in (after i)))

no_count : (n : Option ℕ) → None ≡ shard_by n None
no_count None = refl
no_count (Some n) = refl

pub no_slash : (text : List ℕ) → position_or_len (λ b. b == 47) text ≡ length text → None ≡ shard_in text
no_slash text h =
    let after : after_first (λ b. b == 47) text ≡ [] = ap (λ n. drop (n + 1) text) h ∙ drop_all (length text + 1) text (omega arith) in
    no_count (number_in (before_first (λ b. b == 47) text)) ∙ ap (λ t. shard_by (number_in (before_first (λ b. b == 47) text)) (number_in t)) (sym after)
