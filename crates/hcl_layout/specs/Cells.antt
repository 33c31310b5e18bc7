-- The parts of a line that are aligned with adjacent lines: its trailing comment, and its assign cell, which begins at
-- an assignment sign. Cells are identified by their place in the line. Our own choice, in the style of `terraform fmt`.
use Rattle.std.specs.Prelude.{◌+◌, ◌==◌, ◌&&◌, ℕ, Bool, not, [], ◌∷◌, Option, Some, None, if◌then◌else◌, drop}
use Rattle.std.specs.List.{list_any}
use Rattle.hcl_tokens.specs.Lexemes.{Lexeme}
use Rattle.hcl_tokens.specs.Kinds.{is}
use Rattle.hcl_tokens.specs.declared.token.Kind.TheVariants as kind
use Rattle.hcl_layout.specs.Lines.{Line}
use Rattle.hcl_layout.specs.Levels.{Net, net_of}

-- the place of the first token that passes the test, counted from a number on
abbrev pub first_place_from : (Lexeme → Bool) → ℕ → Line → Option ℕ
first_place_from test i [] = None
first_place_from test i (t ∷ line) = if test t then Some i else first_place_from test (i + 1) line

-- such a place among all tokens except the line's first
abbrev pub first_place : (Lexeme → Bool) → Line → Option ℕ
first_place test line = first_place_from test 1 (drop 1 line)

abbrev pub is_trailing : Lexeme → Bool
is_trailing t = is kind.LineComment t.kind && not t.inside_heredoc

abbrev pub trailing_comment : Line → Option ℕ
trailing_comment = first_place is_trailing

-- the tokens before the first that passes the test
abbrev pub until : (Lexeme → Bool) → Line → Line
until test [] = []
until test (t ∷ line) = if test t then [] else t ∷ until test line

-- the line before its trailing comment
abbrev pub before_comment : Line → Line
before_comment [] = []
before_comment (t ∷ line) = t ∷ until is_trailing line

abbrev pub is_assignment : Lexeme → Bool
is_assignment t = is kind.Assign t.kind && not t.inside_heredoc

-- an inline comment with a newline in it, so that the line continues below it
abbrev pub is_multiline : Lexeme → Bool
is_multiline t =
    is kind.InlineComment t.kind && not t.inside_heredoc && list_any (λ b. b == 10) t.text

abbrev pub has_multiline : Line → Bool
has_multiline = list_any is_multiline

abbrev pub is_level : Net → Bool
is_level n = n.opens == n.closes

-- the sign begins a cell if the tokens after it close what they open
abbrev pub if_level : Line → Option ℕ → Option ℕ
if_level line None = None
if_level line (Some i) = if is_level (net_of (drop i line)) then Some i else None

-- the line's first assignment sign, as a cell; a later sign never begins one
abbrev pub assign_cell : Line → Option ℕ
assign_cell line =
    if has_multiline line then None
    else if_level (before_comment line) (first_place is_assignment (before_comment line))

-- the trailing comment, if the line is part of runs of comments
abbrev pub running_comment : Line → Option ℕ
running_comment line = if has_multiline line then None else trailing_comment line
