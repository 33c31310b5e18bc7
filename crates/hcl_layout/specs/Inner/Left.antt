-- The rest of the print, from a piece on.
use Rattle.std.specs.Prelude.{◌≡◌, ◌≢◌, ◌==◌, ◌&&◌, MatchOption, ◌+◌, ◌-◌, ◌++◌, ℕ, Bool, List, Option, Some, None, length, take, drop, nat_le, nat_lt, replicate, slice_get, if◌then◌else◌}
use Rattle.std.specs.List.{list_all}
use Rattle.hcl_tokens.specs.Lexemes.{Lexeme}
use Rattle.hcl_layout.specs.Inner.LineGaps.{LineGaps, gap_of, plain_gap}
use Rattle.hcl_layout.specs.declared.lines.Piece.{Piece}

-- the token before a place, if it is in the line that begins at `start`
abbrev pub token_before : List Lexeme → ℕ → ℕ → Option Lexeme
token_before ts start at = if nat_lt start at then slice_get ts (at - 1) else None

-- the gap before a token of the line that begins at `start`, by the level and the spacing alone
abbrev pub plain_gap_before : List Lexeme → ℕ → ℕ → ℕ → Lexeme → ℕ
plain_gap_before ts level start at t = plain_gap level (token_before ts start (at - 1)) (token_before ts start at) t

-- the gap with the line's cells as well
abbrev pub gap_before : List Lexeme → LineGaps → ℕ → ℕ → Lexeme → ℕ
gap_before ts g start at t = gap_of g (at - start) (token_before ts start (at - 1)) (token_before ts start at) t

abbrev pub bytes_of : Piece → List ℕ
bytes_of p = replicate p.gap 32 ++ p.token.text.now

-- where a piece ends if the source has it at an offset, or none
abbrev pub EndsAt : List ℕ → ℕ → Piece → Option ℕ → Type 0
EndsAt source offset p end = MatchOption end ((rest : List ℕ) → drop offset source ≢ bytes_of p ++ rest) (λ e. drop offset source ≡ bytes_of p ++ drop e source)

-- the blanks before a token of the line that begins at `start`, except its first, whatever the line's level
abbrev pub IsGapBefore : List Lexeme → ℕ → ℕ → Lexeme → ℕ → Type 0
IsGapBefore ts start at t gap = (level : ℕ) → gap ≡ plain_gap_before ts level start at t

abbrev pub IsGapAt : List Lexeme → ℕ → ℕ → ℕ → Type 0
IsGapAt ts start at gap = (level : ℕ) (t : Lexeme) → slice_get ts at ≡ Some t → gap ≡ plain_gap_before ts level start at t

-- the source continues with a piece from an offset on
abbrev pub GoesOn : List ℕ → ℕ → Piece → Type 0
GoesOn source offset p = drop offset source ≡ bytes_of p ++ drop (p.token.start + length p.token.text.now) source

-- this many blanks at the front
abbrev pub begins_blank : ℕ → List ℕ → Bool
begins_blank gap bytes = nat_le gap (length bytes) && list_all (λ b. b == 32) (take gap bytes)
