-- The table of spacing by pairs of kinds: definitions of the code, which need no trust. Trying all pairs of kinds
-- proves that they agree with the table (proofs/KindPairLemmas).
use Rattle.std.specs.Prelude.{◌&&◌, ◌||◌, ◌==◌, ℕ, Bool, true, false, not, Option, Some, None, if◌then◌else◌, codes}
use Rattle.std.specs.Str.{bytes_eq}
use Rattle.hcl_tokens.specs.Lexemes.{Lexeme}
use Rattle.hcl_tokens.specs.declared.token.Kind.{Kind}
use Rattle.hcl_tokens.specs.declared.token.Kind.TheVariants as kind
use Rattle.hcl_tokens.specs.Kinds.{is}
use Rattle.hcl_spacing.specs.declared.rows.Row.{Row}
use Rattle.std.specs.Int.{bit_at}
use Rattle.hcl_spacing.specs.Spacing.{begins_with_colon, begins_with_equals, closes_group, is_opening, opens_sequence, follows_kind}

-- kinds with no blank before them, unless they would join
abbrev pub hugs_left : Kind → Bool
hugs_left kind.Newline = true
hugs_left kind.Dot = true
hugs_left kind.ColonColon = true
hugs_left kind.Comma = true
hugs_left kind.Ellipsis = true
hugs_left kind.Lit = true
hugs_left kind.QuoteClose = true
hugs_left _ = false

-- after the kinds that an index may follow
abbrev pub space_after_operand : Kind → Bool
space_after_operand r = not (hugs_left r || closes_group r || is kind.BracketOpen r)

-- after `}`
abbrev pub space_after_brace : Kind → Bool
space_after_brace r = is kind.SeqClose r || space_after_operand r

-- after a number, unless it could join a dot
abbrev pub space_after_number : Kind → Option Bool
space_after_number r = if is kind.Dot r then None else Some (space_after_operand r)

-- after a name, unless it could be the word `in`
abbrev pub space_after_name : Kind → Option Bool
space_after_name r = if is kind.BracketOpen r || closes_group r then None else Some (not (hugs_left r || is kind.ParenOpen r))

-- after `${` and `%{`, unless they could join the `~` of the closer
abbrev pub space_in_sequence : Kind → Option Bool
space_in_sequence r = if is kind.SeqClose r then None else Some (is kind.BraceOpen r || is kind.BraceClose r)

-- after `:`, unless it could join another where none would stand
abbrev pub space_after_colon : Kind → Option Bool
space_after_colon r = if is kind.Newline r then Some false else if hugs_left r || closes_group r then None else Some true

-- decided only at the end of a line
abbrev pub unless_line_ends : Kind → Option Bool
unless_line_ends r = if is kind.Newline r then Some false else None

-- the answer, if the two kinds give it, outside heredocs
abbrev pub pair_space : Kind → Kind → Option Bool
pair_space kind.Not r = unless_line_ends r
pair_space kind.Minus r = if hugs_left r then Some false else None
pair_space kind.Colon r = space_after_colon r
pair_space kind.ColonColon r = Some false
pair_space kind.QuoteOpen r = Some false
pair_space kind.Lit r = Some false
pair_space kind.Dot r = Some (is kind.Dot r || is kind.Ellipsis r)
pair_space kind.Comma r = Some (not (is kind.Newline r || is kind.Dot r || is kind.ColonColon r || is kind.Comma r || is kind.Ellipsis r))
pair_space kind.ParenOpen r = Some (is kind.BraceClose r)
pair_space kind.BracketOpen r = Some (is kind.BraceClose r)
pair_space kind.BraceOpen r = Some (not (hugs_left r || is kind.BraceClose r))
pair_space kind.InterpOpen r = space_in_sequence r
pair_space kind.ControlOpen r = space_in_sequence r
pair_space kind.SeqClose r = Some (not (hugs_left r || closes_group r || opens_sequence r))
pair_space kind.BraceClose r = Some (space_after_brace r)
pair_space kind.Number r = space_after_number r
pair_space kind.Ident r = space_after_name r
pair_space kind.QuoteClose r = Some (space_after_operand r)
pair_space kind.ParenClose r = Some (space_after_operand r)
pair_space kind.BracketClose r = Some (space_after_operand r)
pair_space _ r = Some (not (hugs_left r || closes_group r))

-- the answer if the kinds don't give it, by the table's tests after this kind of the texts or of the token before
abbrev pub space_by_texts_after : Kind → Option Lexeme → Lexeme → Lexeme → Bool
space_by_texts_after kind.Not before subject after = begins_with_equals after.text
space_by_texts_after kind.Colon before subject after = begins_with_colon after.text
space_by_texts_after kind.Minus before subject after = not (is_opening before)
space_by_texts_after kind.Number before subject after = not (follows_kind (is kind.Dot) before)
space_by_texts_after kind.Ident before subject after = follows_kind (is kind.Ident) before && bytes_eq subject.text (codes "in")
space_by_texts_after _ before subject after = bytes_eq after.text (codes "~}")

abbrev pub space_by_texts : Option Lexeme → Lexeme → Lexeme → Bool
space_by_texts before subject after = space_by_texts_after subject.kind before subject after

-- the bit of a kind in a set of kinds
abbrev pub number : Kind → ℕ
number kind.Newline = 0
number kind.LineComment = 1
number kind.InlineComment = 2
number kind.Blank = 3
number kind.Ident = 4
number kind.Number = 5
number kind.HeredocOpen = 6
number kind.QuoteOpen = 7
number kind.ParenOpen = 8
number kind.BracketOpen = 9
number kind.BraceOpen = 10
number kind.ParenClose = 11
number kind.BracketClose = 12
number kind.SeqClose = 13
number kind.BraceClose = 14
number kind.Dot = 15
number kind.Comma = 16
number kind.Ellipsis = 17
number kind.Question = 18
number kind.Colon = 19
number kind.ColonColon = 20
number kind.Assign = 21
number kind.Arrow = 22
number kind.Not = 23
number kind.Minus = 24
number kind.Plus = 25
number kind.Star = 26
number kind.Slash = 27
number kind.Percent = 28
number kind.And = 29
number kind.Or = 30
number kind.Equal = 31
number kind.NotEqual = 32
number kind.Less = 33
number kind.Greater = 34
number kind.LessEqual = 35
number kind.GreaterEqual = 36
number kind.Lit = 37
number kind.InterpOpen = 38
number kind.ControlOpen = 39
number kind.QuoteClose = 40
number kind.HeredocClose = 41

abbrev pub has : ℕ → Kind → Bool
has kinds kind = bit_at kinds (number kind) == 1

-- the answer of a row for a kind
abbrev pub row_answer : Row → Kind → Option Bool
row_answer row r = if has row.asked r then None else Some (has row.blank r)
