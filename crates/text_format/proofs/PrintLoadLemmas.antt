-- A print of few bytes is a source.
use Rattle.std.proofs.Common.{◌≡◌, ℕ, zero, suc, ◌≤◌, false, List, [], ◌∷◌, ◌++◌, length, replicate, refl, IsUtf8}
use Rattle.std.proofs.lemmas.Str.{IsUtf8-append, IsUtf8-nil}
use Rattle.std.specs.Prelude.{encode_utf8_all}
use lib.Utf8.{encode}
use Rattle.hcl_tokens.specs.Lexemes.{Lexeme}
use Rattle.hcl_source.specs.Load.{IsText, has_byte_order_mark, max_source}
use Rattle.hcl_tokens.specs.Scans.{Scans}
use Rattle.hcl_tokens.specs.SideBySide.{AreTexts}
use Rattle.hcl_scan.proofs.TokenTextLemmas.{texts_are}
use Rattle.hcl_scan.proofs.ByteOrderMarkLemmas.{unmarked}
use Rattle.hcl_layout.specs.Gaps.{gaps}
use Rattle.hcl_layout.specs.Print.{print, printed_text}

one_blank : encode_utf8_all (32 ∷ []) ≡ 32 ∷ []
unfolding encode
one_blank = refl

blanks_utf8 : (g : ℕ) → IsUtf8 (replicate g 32)
blanks_utf8 zero = IsUtf8-nil
blanks_utf8 (suc g) = IsUtf8-append (32 ∷ []) (replicate g 32) (32 ∷ [], (refl, one_blank)) (blanks_utf8 g)

printed_utf8 : (gs : List ℕ) (ts : List Lexeme) → AreTexts ts → IsUtf8 (printed_text gs ts)
printed_utf8 [] ts are = IsUtf8-nil
printed_utf8 (g ∷ gs) [] are = IsUtf8-nil
printed_utf8 (g ∷ gs) (t ∷ ts) are = IsUtf8-append (replicate g 32 ++ t.text) (printed_text gs ts) (IsUtf8-append (replicate g 32) t.text (blanks_utf8 g) are.0) (printed_utf8 gs ts are.1)

first_plain : (text : List ℕ) (gs : List ℕ) (ts : List Lexeme) → Scans text ts → has_byte_order_mark (printed_text gs ts) ≡ false
first_plain text [] ts scans = refl
first_plain text (g ∷ gs) [] scans = refl
first_plain text (zero ∷ gs) (t ∷ ts) scans = unmarked text t ts (printed_text gs ts) scans
first_plain text (suc g ∷ gs) (t ∷ ts) scans = refl

pub loads_again : (text : List ℕ) (ts : List Lexeme) → IsText text → Scans text ts → length (print ts) ≤ max_source → IsText (print ts)
loads_again text ts is scans small = record {
  small = small;
  utf8 = printed_utf8 (gaps ts) ts (texts_are text ts is.utf8 scans);
  unmarked = first_plain text (gaps ts) ts scans;
}
