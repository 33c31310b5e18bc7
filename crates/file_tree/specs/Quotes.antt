-- Names as diffs and reports show them: like GNU diff and git.
use Rattle.std.specs.Prelude.{ℕ, ◌==◌, ◌||◌, ◌&&◌, ◌+◌, ◌-◌, ◌/◌, ◌%◌, not, Bool, List, [], ◌∷◌, ◌++◌, codes, flat_map, get_or, nat_le, nat_lt, if◌then◌else◌}
use Rattle.std.specs.List.{list_any}
use Rattle.file_tree.specs.Files.{Name}

-- below blank, or DEL
abbrev pub is_control : ℕ → Bool
is_control b = nat_lt b 32 || b == 127

-- a byte for which a name is quoted: a control, `"` or `\`
abbrev pub is_odd : ℕ → Bool
is_odd b = is_control b || (b == 34 || b == 92)

-- `\a`, `\b`, `\t`, `\n`, `\v`, `\f` and `\r` are 7 to 13
abbrev pub letter : ℕ → ℕ
letter b = get_or (codes "abtnvfr") (b - 7) 0

-- `\"` and `\\`, a letter, or three octal digits
abbrev pub escape : ℕ → List ℕ
escape b =
    if b == 34 || b == 92 then 92 ∷ b ∷ []
    else (if nat_le 7 b && nat_le b 13 then 92 ∷ letter b ∷ []
    else 92 ∷ (48 + b / 64) ∷ (48 + b / 8 % 8) ∷ (48 + b % 8) ∷ [])

abbrev pub shown_byte : ℕ → List ℕ
shown_byte b = if is_odd b then escape b else b ∷ []

-- a text between double quotes
abbrev pub in_quotes : List ℕ → List ℕ
in_quotes text = 34 ∷ (flat_map shown_byte text ++ 34 ∷ [])

-- A NAME AS IT IS SHOWN: itself, or between double quotes if it has an odd byte
abbrev pub shown_name : Name → List ℕ
shown_name name = if list_any is_odd name then in_quotes name else name

-- a name that is shown as itself has a blank
abbrev pub has_plain_blank : Name → Bool
has_plain_blank name = not (list_any is_odd name) && list_any (λ b. b == 32) name

-- A NAME IN THE HEAD OF A DIFF: as it is shown, with a tab after it if it has a blank and isn't quoted, by which
-- `patch` takes it whole
abbrev pub shown_head : Name → List ℕ
shown_head name = shown_name name ++ (if has_plain_blank name then 9 ∷ [] else [])
