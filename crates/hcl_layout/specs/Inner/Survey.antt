-- One walk along a line, token by token, and the whole line that it finds.
use Rattle.std.specs.Prelude.{◌≡◌, ◌<◌, ◌≤◌, ◌+◌, ◌^◌, ◌==◌, ◌||◌, ◌&&◌, ℕ, Bool, true, false, not, List, [], ◌∷◌, Option, Some, None, length, take, drop, if◌then◌else◌, is_some}
use Rattle.hcl_tokens.specs.Lexemes.{Lexeme}
use Rattle.hcl_tokens.specs.declared.token.Kind.{Kind}
use Rattle.hcl_tokens.specs.declared.token.Kind.TheVariants as kind
use Rattle.hcl_layout.specs.Lines.{Line, ends_line, lines}
use Rattle.hcl_tokens.specs.Kinds.{is}
use Rattle.hcl_layout.specs.Cells.{assign_cell, is_assignment, is_multiline, is_trailing, running_comment, trailing_comment}
use Rattle.hcl_tokens.specs.Balanced.{max_open}
use Rattle.hcl_grammar.specs.Items.{deepen}
use Rattle.hcl_layout.specs.Inner.Depths.{BalancedFrom, depth_after}
use Rattle.std.specs.Prelude.{option_map, slice_get, ◌-◌}
use Rattle.hcl_layout.specs.declared.line.Line.{Line as LineRead}
use Rattle.hcl_layout.specs.declared.line.LineState.{LineState}

-- the state after a token of a line: how many were passed, the depth, whether an inline comment held a newline, the
-- place of the trailing comment and the depth before it, and the place of the first sign and the depth before it
pub record Survey : Type 0 where
  pub len : ℕ
  pub depth : ℕ
  pub multiline : Bool
  pub comment : Option ℕ
  pub body_depth : ℕ
  pub assign : Option ℕ
  pub sign_depth : ℕ

-- the facts of a line: its tokens, the depth after it, and the places of its cells
pub record LineFacts : Type 0 where
  pub len : ℕ
  pub depth : ℕ
  pub assign : Option ℕ
  pub comment : Option ℕ
  pub running : Option ℕ

-- a token of the kind may be or tear a cell
abbrev pub marks : Kind → Bool
marks k = is kind.LineComment k || is kind.InlineComment k || is kind.Assign k

-- a token of the kind may end the line
abbrev pub stops : Kind → Bool
stops k = is kind.Newline k || marks k

-- the byte for the effect of a token of the kind on the depth: from depth 1 the depth after it, as a digit, or a point
-- if the token needs a closer look
abbrev pub step_of : Kind → ℕ
step_of k = if stops k then 46 else 48 + deepen 1 k

-- after the line's first token
abbrev pub survey_start : ℕ → Lexeme → Survey
survey_start d t = record { len = 1; depth = deepen d t.kind; multiline = is_multiline t; comment = None; body_depth = deepen d t.kind; assign = None; sign_depth = 0 }

-- the token is the first sign before the trailing comment
abbrev pub takes_assign : Survey → Lexeme → Bool
takes_assign s t = not (is_some s.comment) && not (is_trailing t) && not (is_some s.assign) && is_assignment t

-- after one more token
abbrev pub survey_step : Survey → Lexeme → Survey
survey_step s t = record {
  len = s.len + 1;
  depth = deepen s.depth t.kind;
  multiline = s.multiline || is_multiline t;
  comment = if is_some s.comment || not (is_trailing t) then s.comment else Some s.len;
  body_depth = if is_some s.comment || is_trailing t then s.body_depth else deepen s.depth t.kind;
  assign = if takes_assign s t then Some s.len else s.assign;
  sign_depth = if takes_assign s t then s.depth else s.sign_depth;
}

-- after the rest of the line; `last` is the token before
abbrev pub survey_rest : Survey → Lexeme → List Lexeme → Survey
survey_rest s last [] = s
survey_rest s last (t ∷ ts) = if ends_line last then s else survey_rest (survey_step s t) t ts

-- after the rest of the line, if the line continues after the token before
abbrev pub survey_from : Survey → List Lexeme → Survey
survey_from s [] = s
survey_from s (t ∷ ts) = survey_rest (survey_step s t) t ts

-- the place of the sign, if it begins a cell
abbrev pub cell_if : Bool → Option ℕ → Option ℕ
cell_if true assign = assign
cell_if false assign = None

abbrev pub assign_of : Survey → Option ℕ
assign_of s = cell_if (not s.multiline && (s.sign_depth == s.body_depth)) s.assign

abbrev pub running_of : Survey → Option ℕ
running_of s = if s.multiline then None else s.comment

-- the facts from a survey of the whole line
abbrev pub facts_of : Survey → LineFacts
facts_of s = record { len = s.len; depth = s.depth; assign = assign_of s; comment = s.comment; running = running_of s }

-- the line of these facts
abbrev pub text_at : List Lexeme → ℕ → LineFacts → Line
text_at ts at f = take f.len (drop at ts)

-- the facts are those of the line at a place, given the depth
pub record IsLine (ts : List Lexeme) (at d : ℕ) (f : LineFacts) : Type 0 where
  pub some : 0 < f.len
  pub within : at + f.len ≤ length ts
  pub fits : at + f.len ≤ 2 ^ 22
  pub cut : lines (drop at ts) ≡ take f.len (drop at ts) ∷ lines (drop (at + f.len) ts)
  pub depth : f.depth ≡ depth_after d (take f.len (drop at ts))
  pub low : f.depth ≤ max_open
  pub rest : BalancedFrom f.depth (drop (at + f.len) ts)
  pub assign : f.assign ≡ assign_cell (take f.len (drop at ts))
  pub comment : f.comment ≡ trailing_comment (take f.len (drop at ts))
  pub running : f.running ≡ running_comment (take f.len (drop at ts))

-- ---- by token numbers

-- the depth before the comment
abbrev pub body_of : LineState → ℕ → ℕ
body_of s depth = if is_some s.comment then s.body_depth else depth

-- the state for the tokens of a line from its first up to a number, with the depth there
abbrev pub survey_of : LineState → ℕ → ℕ → ℕ → Survey
survey_of s depth first number = record {
  len = number - first;
  depth = depth;
  multiline = s.multiline;
  comment = option_map (λ n. n - first) s.comment;
  body_depth = body_of s depth;
  assign = option_map (λ n. n - first) s.assign;
  sign_depth = s.sign_depth;
}

-- the line that was read
abbrev pub facts_in : LineRead → LineFacts
facts_in l = record {
  len = l.end - l.first;
  depth = l.depth;
  assign = option_map (λ n. n - l.first) l.assign;
  comment = option_map (λ n. n - l.first) l.comment;
  running = if not l.runs then None else option_map (λ n. n - l.first) l.comment;
}

-- the sign that was seen, if it begins a cell
abbrev pub seen_cell : LineState → ℕ → Option ℕ
seen_cell s depth = cell_if (not s.multiline && (s.sign_depth == body_of s depth)) s.assign

-- only whether the first token holds a newline
abbrev pub seen_at_start : Bool → LineState
seen_at_start multiline = record { assign = None; sign_depth = 0; comment = None; body_depth = 0; multiline = multiline }

-- another token was passed
abbrev pub Notes : LineState → ℕ → ℕ → Lexeme → LineState → Type 0
Notes old number depth t new = (first : ℕ) → first ≤ number → survey_of new depth first (number + 1) ≡ survey_step (survey_of old depth first number) t

-- the token of that number was passed
abbrev pub NotesAt : List Lexeme → LineState → ℕ → ℕ → LineState → Type 0
NotesAt ts old number depth new = (t : Lexeme) → slice_get ts number ≡ Some t → Notes old number depth t new

-- the first token was passed
abbrev pub NotesFirst : List Lexeme → ℕ → ℕ → LineState → ℕ → Type 0
NotesFirst ts first before seen depth = (t : Lexeme) → slice_get ts first ≡ Some t → survey_of seen depth first (first + 1) ≡ survey_start before t

-- the tokens from one number up to another were passed; none is a cell, tears one or ends the line
pub record PassesSteps (ts : List Lexeme) (from before number depth : ℕ) : Type 0 where
  pub order : from ≤ number
  pub within : number ≤ length ts
  pub balanced : BalancedFrom depth (drop number ts)
  pub low : depth ≤ max_open
  pub same : (seen : LineState) (first : ℕ) → first ≤ from → survey_from (survey_of seen before first from) (drop from ts) ≡ survey_from (survey_of seen depth first number) (drop number ts)

-- the token there needs a closer look
abbrev pub AsksMore : List Lexeme → ℕ → Type 0
AsksMore ts number = (t : Lexeme) → slice_get ts number ≡ Some t → stops t.kind ≡ true

abbrev pub TellsEnd : List Lexeme → ℕ → Bool → Type 0
TellsEnd ts first ends = (t : Lexeme) → slice_get ts first ≡ Some t → ends ≡ ends_line t
