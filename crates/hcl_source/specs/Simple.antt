-- Texts of ASCII without CR: each byte of them is an extended grapheme cluster (UAX 29), since among ASCII only CR LF
-- is a cluster of two.
use Rattle.std.specs.Prelude.{◌==◌, ◌&&◌, ℕ, Bool, List, not, nat_lt}
use Rattle.std.specs.List.{list_all}

abbrev pub is_simple : List ℕ → Bool
is_simple text = list_all (λ b. nat_lt b 128 && not (b == 13)) text
