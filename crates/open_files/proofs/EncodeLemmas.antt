-- The bytes that are escaped.
use Rattle.std.proofs.Common.{◌≡◌, ◌∙◌, ◌++◌, ◌∷◌, ◌<◌, ◌≤◌, [], ℕ, List, Bool, suc, zero, true, false, not, ◌&&◌, ap, arith, cond, ltb, refl, sym, ⊎_elim}
use Rattle.std.specs.List.{flat_map}
use Rattle.std.proofs.lemmas.Bool.{cases_Bool, ltb-false, ltb-true}
use Rattle.std.proofs.lemmas.Bool.Decides.{Decides-below_and, nat_tests}
use Rattle.percent_encoding.specs.AsciiSet.{should_percent_encode}
use Rattle.percent_encoding.specs.Percent.{encode_byte, percent_encode, percent_encode_byte}
use Rattle.open_files.specs.Uris.{encoded_byte, is_unreserved}
use Rattle.open_files.specs.declared.uri.TheConstants.{ESCAPED}

-- of the two just one
abbrev differ : Bool → Bool → Bool
differ x y = cond x (not y) y

from_differ : (x y : Bool) → differ x y ≡ true → y ≡ not x
from_differ true true e = sym e
from_differ true false e = refl
from_differ false true e = refl
from_differ false false e = e

abbrev settles : ℕ → Bool
settles b = differ (is_unreserved b) (should_percent_encode ESCAPED b)

abbrev settles_below : ℕ → Bool
settles_below zero = true
settles_below (suc n) = settles n && settles_below n

ascii_settled : settles_below 128 ≡ true
unfolding should_percent_encode
ascii_settled = refl

in_ascii : (b : ℕ) → b < 128 → settles b ≡ true
in_ascii =
    (Decides-below_and settles (λ b. settles b ≡ true) settles_below (λ b. (λ e. e, λ e. e)) refl (λ _. refl) 128).0 ascii_settled

after_ascii : (b : ℕ) → 128 ≤ b → settles b ≡ true
unfolding should_percent_encode
after_ascii b high = grind (arith, nat_tests)

pub escaped_is : (b : ℕ) → should_percent_encode ESCAPED b ≡ not (is_unreserved b)
escaped_is b =
    from_differ (is_unreserved b) (should_percent_encode ESCAPED b)
    (⊎_elim (λ low. in_ascii b (ltb-true b 128 low)) (λ high. after_ascii b (ltb-false b 128 high)) (cases_Bool (ltb b 128)))

swap_by : (x y : Bool) (these those : List ℕ) → y ≡ not x → cond y these those ≡ cond x those these
swap_by true y these those e = ap (λ b. cond b these those) e
swap_by false y these those e = ap (λ b. cond b these those) e

byte_is : (b : ℕ) → encode_byte ESCAPED b ≡ encoded_byte b
byte_is b =
    swap_by (is_unreserved b) (should_percent_encode ESCAPED b) (percent_encode_byte b) (b ∷ []) (escaped_is b)

pub encoded_is : (path : List ℕ) → percent_encode ESCAPED path ≡ flat_map encoded_byte path
unfolding percent_encode
encoded_is [] = refl
encoded_is (b ∷ path) =
    ap (λ l. l ++ flat_map (encode_byte ESCAPED) path) (byte_is b) ∙ ap (λ l. encoded_byte b ++ l) (encoded_is path)
