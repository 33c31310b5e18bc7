-- A laid-out line, by token numbers: its gaps, its widths, and the runs that it belongs to.
use Rattle.std.specs.Prelude.{◌≡◌, ◌≢◌, ◌<◌, ◌≤◌, ◌+◌, ◌-◌, ◌^◌, ◌++◌, ◌==◌, ◌||◌, ℕ, Bool, false, not, List, Option, Some, None, IfSome, MatchOption, length, ◌∷◌, take, drop, max, nat_lt, option_map, if◌then◌else◌}
use Rattle.std.specs.List.{flat_map}
use Rattle.hcl_tokens.specs.Lexemes.{Lexeme}
use Rattle.hcl_tokens.specs.Balanced.{max_open}
use Rattle.hcl_layout.specs.Columns.{widest}
use Rattle.hcl_layout.specs.Lines.{Line, lines}
use Rattle.hcl_layout.specs.Gaps.{align, plain_gaps, width}
use Rattle.hcl_layout.specs.Cells.{assign_cell, running_comment, trailing_comment}
use Rattle.hcl_layout.specs.Print.{printed_text}
use Rattle.hcl_layout.specs.Inner.Depths.{fresh_levels, level_at, next_levels}
use Rattle.hcl_layout.specs.Inner.Left.{gap_before, token_before}
use Rattle.hcl_layout.specs.Inner.LineGaps.{Cell, LineGaps, gaps_from, gaps_in}
use Rattle.hcl_layout.specs.Inner.Stream.{assign_column, assign_width, assign_widths, comment_column, comment_widths, comment_stream, next_of, first_gaps}
use Rattle.hcl_layout.specs.Inner.Survey.{IsLine, facts_in}
use Rattle.hcl_layout.specs.Inner.Walks.{IsWalkAt, Walk, comment_widths_at, assign_widths_at}
use Rattle.hcl_layout.specs.declared.line.Line.{Line as LineRead}
use Rattle.hcl_layout.specs.declared.lines.Cell.{Cell as CellLaid}
use Rattle.hcl_layout.specs.declared.lines.Columns.{Columns}
use Rattle.hcl_layout.specs.declared.lines.Columns.TheVariants.{Ahead}
use Rattle.hcl_layout.specs.declared.lines.LaidLine.{LaidLine}
use Rattle.hcl_layout.specs.declared.lines.Lines.{Lines}
use Rattle.hcl_layout.specs.declared.lines.Run.{Run}

-- ---- a line

abbrev pub text_of : List Lexeme → LaidLine → Line
text_of ts l = take (l.end - l.first) (drop l.first ts)

-- a cell of the line, or none if its number is the end's
abbrev pub cell_of : LaidLine → CellLaid → Option Cell
cell_of l c = if nat_lt c.number l.end then Some (record { place = c.number - l.first; width = c.width; gap = c.gap }) else None

-- the inputs of its gaps
abbrev pub shape : LaidLine → LineGaps
shape l = record { level = l.level; assign = cell_of l l.assign; comment = cell_of l l.comment }

pub record Laid (ts : List Lexeme) (l : LaidLine) : Type 0 where
  pub some : l.first < l.end
  pub within : l.end ≤ length ts
  pub few : length ts ≤ 2 ^ 22
  pub level : l.level ≤ max_open
  pub sign_front : l.first < l.assign.number
  pub comment_front : l.first < l.comment.number
  pub sign_gap : l.assign.gap ≤ 2 ^ 33
  pub comment_gap : l.comment.gap ≤ 2 ^ 34

-- the line from a token on, its gaps, and the width before another token
abbrev pub rest_of : List Lexeme → LaidLine → ℕ → Line
rest_of ts l n = take (l.end - n) (drop n ts)

abbrev pub gaps_on : List Lexeme → LaidLine → ℕ → List ℕ
gaps_on ts l n = gaps_from (shape l) (n - l.first) (token_before ts l.first (n - 1)) (token_before ts l.first n) (rest_of ts l n)

abbrev pub width_on : List Lexeme → LaidLine → ℕ → ℕ → ℕ
width_on ts l n stop = width (stop - n) (gaps_on ts l n) (rest_of ts l n)

-- the gap before a token
abbrev pub gap_on : List Lexeme → LaidLine → ℕ → Lexeme → ℕ
gap_on ts l n t = gap_before ts (shape l) l.first n t

-- the width before a token, by the level and the spacing alone, and with the line's cells
abbrev pub assign_width_on : List Lexeme → LaidLine → ℕ → ℕ
assign_width_on ts l n = width (n - l.first) (plain_gaps l.level (text_of ts l)) (text_of ts l)

abbrev pub comment_width_on : List Lexeme → LaidLine → ℕ → ℕ
comment_width_on ts l n = width (n - l.first) (gaps_in (shape l) (text_of ts l)) (text_of ts l)

-- the gap before the token depends on no token before it
abbrev pub HasOwnGap : LaidLine → ℕ → Type 0
HasOwnGap l n = (n ≡ l.comment.number → ⊥) → (n ≡ l.assign.number → ⊥) → n ≡ l.first

-- from a number on, neither the line's first token nor a cell is before the stop
pub record Stops (l : LaidLine) (n stop : ℕ) : Type 0 where
  pub order : n ≤ stop
  pub first : n < stop → l.first < n
  pub assign : n ≤ l.assign.number → stop ≤ l.assign.number
  pub comment : n ≤ l.comment.number → stop ≤ l.comment.number
  pub own : stop < l.end → HasOwnGap l stop

-- no cell is after one number and before another
abbrev pub IsPlainOn : LaidLine → ℕ → ℕ → Type 0
IsPlainOn l from stop = (k : ℕ) → from < k → k < stop → (k ≢ l.comment.number) × (k ≢ l.assign.number)

-- the laid-out line is the line that was read
abbrev pub Spans : LaidLine → LineRead → Type 0
Spans l r = (l.first ≡ r.first) × (l.end ≡ r.end)

-- ---- the lines that were passed

abbrev pub column_of : Option Run → Option ℕ
column_of = option_map (λ (r : Run). r.column)

abbrev pub walk_of : Lines → Walk
walk_of s = record { depth = s.depth; levels = s.levels; assigns = column_of s.assigns; comments = column_of s.comments }

-- no line was passed
abbrev pub no_lines : Columns → Lines
no_lines columns = record { next = 0; depth = 0; levels = fresh_levels; assigns = None; comments = None; columns = columns; wrong = false }

-- the passed lines end before the next token
pub record IsAt (ts : List Lexeme) (s : Lines) : Type 0 where
  pub come : IsWalkAt ts s.next (walk_of s)
  pub within : s.next ≤ length ts
  pub few : length ts ≤ 2 ^ 22

-- the line that begins there was read
pub record Reads (ts : List Lexeme) (s : Lines) (r : LineRead) : Type 0 where
  pub at : IsAt ts s
  pub first : r.first ≡ s.next
  pub line : IsLine ts s.next s.depth (facts_in r)

-- another line was passed, whatever its cells
pub record Moves (old : Lines) (r : LineRead) (new : Lines) : Type 0 where
  pub next : new.next ≡ r.end
  pub depth : new.depth ≡ r.depth
  pub levels : new.levels ≡ next_levels old.depth r.depth old.levels
  pub columns : new.columns ≡ old.columns

-- ---- runs

-- a run that ends was given a wrong column
abbrev pub ends_wrong : Option Run → Bool
ends_wrong None = false
ends_wrong (Some r) = not (r.column == r.greatest)

abbrev pub ends_all_wrong : Lines → Bool
ends_all_wrong s = s.wrong || ends_wrong s.assigns || ends_wrong s.comments

-- a run ends
abbrev pub assigns_ended : Lines → Lines
assigns_ended s = record { next = s.next; depth = s.depth; levels = s.levels; assigns = None; comments = s.comments; columns = s.columns; wrong = s.wrong || ends_wrong s.assigns }

abbrev pub comments_ended : Lines → Lines
comments_ended s = record { next = s.next; depth = s.depth; levels = s.levels; assigns = s.assigns; comments = None; columns = s.columns; wrong = s.wrong || ends_wrong s.comments }

-- the run after a line with this width before the cell, or without the cell
abbrev pub ends_wrong_at : Option Run → Option ℕ → Bool
ends_wrong_at run None = ends_wrong run
ends_wrong_at run (Some own) = false

abbrev pub greatest_of : Option Run → ℕ → ℕ
greatest_of None own = own
greatest_of (Some r) own = max r.greatest own

-- a run continues over such a line, keeping its column and updating its greatest width, or it ends
abbrev pub Grows : Option Run → Option ℕ → Option Run → Type 0
Grows run None new = new ≡ None
Grows run (Some own) new = MatchOption new ⊥ (λ r. (r.greatest ≡ greatest_of run own) × IfSome run (λ o. r.column ≡ o.column))

-- ---- a line that is passed

-- without its cells: they are at its end
abbrev pub none_at : ℕ → CellLaid
none_at end = record { number = end; width = 0; gap = 0 }

abbrev pub bare_line : LineRead → ℕ → LaidLine
bare_line r level = record { first = r.first; end = r.end; level = level; assign = none_at r.end; comment = none_at r.end }

abbrev pub bare_after : Lines → LineRead → LaidLine
bare_after s r = bare_line r (level_at s.depth r.depth s.levels)

-- with a cell in a column, and the width before it
abbrev pub cell_in : ℕ → ℕ → ℕ → CellLaid
cell_in number own column = record { number = number; width = own; gap = column - own + 1 }

abbrev pub with_assign_in : LaidLine → ℕ → ℕ → ℕ → LaidLine
with_assign_in l number own column = record { first = l.first; end = l.end; level = l.level; assign = cell_in number own column; comment = l.comment }

abbrev pub with_comment_in : LaidLine → ℕ → ℕ → ℕ → LaidLine
with_comment_in l number own column = record { first = l.first; end = l.end; level = l.level; assign = l.assign; comment = cell_in number own column }

-- the runs stay as they are
abbrev pub KeepsRuns : Lines → Lines → Type 0
KeepsRuns old new = (new.assigns ≡ old.assigns) × (new.comments ≡ old.comments) × (new.wrong ≡ old.wrong)

-- its gaps with its sign in the column of the run, whatever that is, and then with its comment in the column of its run
abbrev pub gaps_after_assign : Lines → Lines → Line → List ℕ
gaps_after_assign old new l = align assign_cell (first_gaps old.depth old.levels l) l (column_of new.assigns)

abbrev pub laid_gaps : Lines → Lines → Line → List ℕ
laid_gaps old new l = align trailing_comment (gaps_after_assign old new l) l (column_of new.comments)

-- columns that are measured ahead are those of the definition
abbrev pub FindsAssign : List Lexeme → Lines → Lines → Type 0
FindsAssign ts old new = old.columns ≡ Ahead → column_of new.assigns ≡ assign_column old.depth old.levels (column_of old.assigns) (lines (drop old.next ts))

abbrev pub FindsComment : List Lexeme → Lines → Lines → Type 0
FindsComment ts old new = old.columns ≡ Ahead → column_of new.comments ≡ comment_column old.depth old.levels (column_of old.assigns) (column_of old.comments) (lines (drop old.next ts))

-- the greatest width before a cell of the run that continues with the next line, and the column of such a run
abbrev pub widest_assign : List Lexeme → Lines → ℕ
widest_assign ts s = widest (assign_widths_at (walk_of s) ts s.next)

abbrev pub widest_comment : List Lexeme → Lines → ℕ
widest_comment ts s = widest (comment_widths_at (walk_of s) ts s.next)

abbrev pub IsAssignColumn : List Lexeme → Lines → ℕ → ℕ → Type 0
IsAssignColumn ts s own column = s.columns ≡ Ahead → Some column ≡ next_of (column_of s.assigns) (Some own ∷ assign_widths_at (walk_of s) ts s.next)

abbrev pub IsCommentColumn : List Lexeme → Lines → ℕ → ℕ → Type 0
IsCommentColumn ts s own column = s.columns ≡ Ahead → Some column ≡ next_of (column_of s.comments) (Some own ∷ comment_widths_at (walk_of s) ts s.next)

-- the line is laid out with its sign, and then with both cells
abbrev pub HasAssignGaps : List Lexeme → Lines → Lines → LaidLine → Type 0
HasAssignGaps ts old new l = gaps_in (shape l) (text_of ts l) ≡ gaps_after_assign old new (text_of ts l)

abbrev pub HasGaps : List Lexeme → Lines → Lines → LaidLine → Type 0
HasGaps ts old new l = gaps_in (shape l) (text_of ts l) ≡ laid_gaps old new (text_of ts l)

-- a line was passed except for its comment
abbrev pub MovesAssign : List Lexeme → Lines → LineRead → Lines → Type 0
MovesAssign ts old r new = Moves old r new × IsAt ts new × (new.comments ≡ old.comments)

-- the run of signs continues over it, or ends and records whether its column was wrong
abbrev pub AssignsGrow : List Lexeme → Lines → Lines → LaidLine → Type 0
AssignsGrow ts old new l =
    Grows old.assigns (assign_width old.depth old.levels (text_of ts l)) new.assigns
    × (new.wrong ≡ (old.wrong || ends_wrong_at old.assigns (assign_cell (text_of ts l))))

-- both runs continue over it
pub record RunsGrow (old : Lines) (l : Line) (new : Lines) : Type 0 where
  pub assigns : Grows old.assigns (assign_width old.depth old.levels l) new.assigns
  pub comments : Grows old.comments (option_map (λ i. width i (gaps_after_assign old new l) l) (running_comment l)) new.comments
  pub wrong : new.wrong ≡ (old.wrong || ends_wrong_at old.assigns (assign_cell l) || ends_wrong_at old.comments (running_comment l))

-- ---- the rest of the print

-- the gaps of the following lines
abbrev pub gaps_after : List Lexeme → Lines → List ℕ
gaps_after ts s = flat_map (λ g. g) (comment_stream s.depth s.levels (column_of s.assigns) (column_of s.comments) (lines (drop s.next ts)))

abbrev pub left_after : List Lexeme → Lines → List ℕ
left_after ts s = printed_text (gaps_after ts s) (drop s.next ts)

-- the gaps of the current line from a token on, and of the following lines
abbrev pub left_on : List Lexeme → LaidLine → List ℕ → ℕ → List ℕ
left_on ts l rest n = printed_text (gaps_on ts l n ++ rest) (drop n ts)

-- the next line is laid out
abbrev pub IsLaid : List Lexeme → Lines → Lines → LaidLine → Type 0
IsLaid ts old new l = Laid ts l × (l.first ≡ old.next) × (l.end ≡ new.next)

-- or there is no next line
abbrev pub IsDone : List Lexeme → Lines → Lines → Type 0
IsDone ts old new = (new ≡ old) × (old.next ≡ length ts)

-- the rest is the line and the rest after it
abbrev pub LeavesGaps : List Lexeme → Lines → Lines → Option LaidLine → Type 0
LeavesGaps ts old new line = old.columns ≡ Ahead → IfSome line (λ l. gaps_after ts old ≡ gaps_on ts l l.first ++ gaps_after ts new)

-- ---- right columns

-- the column of a run is its greatest width: among the passed widths and the following ones
abbrev pub IsRight : Option Run → List (Option ℕ) → Type 0
IsRight run widths = IfSome run (λ r. r.column ≡ max r.greatest (widest widths))

abbrev pub AreRight : List Lexeme → Lines → Type 0
AreRight ts s = IsRight s.assigns (assign_widths s.depth s.levels (lines (drop s.next ts))) × IsRight s.comments (comment_widths s.depth s.levels (column_of s.assigns) (lines (drop s.next ts)))

-- if the columns are right after the line, they are right before it, and the line's cells are in them
abbrev pub GoesBack : List Lexeme → Lines → LaidLine → Lines → Type 0
GoesBack ts old l new = new.wrong ≡ false → AreRight ts new → (old.wrong ≡ false) × AreRight ts old × (gaps_after ts old ≡ gaps_on ts l l.first ++ gaps_after ts new)
