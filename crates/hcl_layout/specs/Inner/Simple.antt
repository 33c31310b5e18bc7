-- Texts of ASCII without CR: each byte of them is an extended grapheme cluster (UAX 29), since among ASCII only CR LF
-- is a cluster of two.
use Rattle.std.specs.Prelude.{◌≡◌, ◌≤◌, ◌==◌, ◌&&◌, ◌||◌, ℕ, Bool, List, [], ◌∷◌, not, nat_le, nat_lt, length, take, drop}
use Rattle.std.specs.List.{list_all}
use Rattle.ucd_table.specs.Rows.{Range}

abbrev pub is_simple_byte : ℕ → Bool
is_simple_byte b = nat_lt b 128 && not (b == 13)

abbrev pub is_simple : List ℕ → Bool
is_simple text = list_all is_simple_byte text

-- Ranges of characters; among characters of these ranges each is a grapheme cluster by itself: Latin up to the
-- combining accents, and controls but CR; Greek, Cyrillic and the blocks between; further Latin and Greek; punctuation;
-- signs, arrows and forms; Chinese and Japanese between the marks that join; their compatible and wide forms; emoji
-- between the flags and the shades of skin; and further Chinese. The tables prove that no member joins with another
-- (proofs/ClusterLemmas).
abbrev pub first_alone : Range
first_alone = (0x0, 0xC)

abbrev pub further_alone : List Range
further_alone =
    (0xE, 0x2FF) ∷
    (0x370, 0x482) ∷
    (0x48A, 0x590) ∷
    (0x1E00, 0x200B) ∷
    (0x2010, 0x20CF) ∷
    (0x2100, 0x2CEE) ∷
    (0x2E00, 0x3029) ∷
    (0x3030, 0x3098) ∷
    (0x309B, 0xA66E) ∷
    (0xF900, 0xFB1D) ∷
    (0xFF00, 0xFF9D) ∷
    (0x1F000, 0x1F1E5) ∷
    (0x1F200, 0x1F3FA) ∷
    (0x1F400, 0x1FAFF) ∷
    (0x20000, 0x3FFFF) ∷ []

-- in the first range, or in one after it
abbrev pub within_any : Range → List Range → ℕ → Bool
within_any r [] c = nat_le r.0 c && nat_le c r.1
within_any r (s ∷ rs) c = (nat_le r.0 c && nat_le c r.1) || within_any s rs c

abbrev pub is_alone : ℕ → Bool
is_alone c = within_any first_alone further_alone c

abbrev pub are_alone : List ℕ → Bool
are_alone cs = list_all is_alone cs

-- a text in the source that begins at a place
abbrev pub IsFrom : List ℕ → ℕ → List ℕ → Type 0
IsFrom source start text = (text ≡ take (length text) (drop start source)) × (start ≤ length source)
