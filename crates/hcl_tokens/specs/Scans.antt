-- The tokens of a text: gaps and longest spellings in turn, as a relation between a text and a whole list. The kinds
-- and their texts are those of the HCL Native Syntax Specification. The specification leaves the end of a heredoc open;
-- our own choice is the first later line that is the marker, ignoring blanks at both ends.
use Rattle.std.specs.Prelude.{◌≡◌, ℕ, ◌+◌, ◌-◌, ◌<◌, ◌≤◌, ◌||◌, ◌&&◌, not, Bool, true, false, IsTrue, List, [], ◌∷◌, ◌++◌, length, drop, take, if◌then◌else◌, nat_lt, codes, get_or, Option, Some, None, ◌⊎◌}
use Rattle.std.specs.List.{prefix_len}
use Rattle.hcl_tokens.specs.Kinds.{is}
use Rattle.hcl_tokens.specs.Lexemes.{Lexeme, Opener, Heredoc, Brace, Bracket, Paren, marker_of, in_heredoc, open_after, max_open}
use Rattle.hcl_tokens.specs.Spelling.{IsSpelling, is_blank, starts, context, Context, Template, Expression}
use Rattle.hcl_tokens.specs.declared.token.Kind.{Kind}
use Rattle.hcl_tokens.specs.declared.token.Kind.TheVariants.{HeredocOpen, HeredocClose, Dot}

-- the text that a heredoc hides: the token of its closing marker, and the text after it
pub record Hidden : Type 0 where
  pub closer : List ℕ
  pub after : List ℕ

-- the state of a reading
pub record State : Type 0 where
  pub at : ℕ  -- how many bytes were read
  pub opens : List Opener  -- the open openers, the innermost first
  pub offsets : List ℕ  -- the offset of each of these
  pub after_dot : Bool  -- the last token is a Dot
  pub seen : List ℕ  -- the visible text from here on
  pub hidden : List Hidden  -- the text that each open heredoc hides, the innermost first

abbrev pub begin : List ℕ → State
begin text =
    record { at = 0; opens = []; offsets = []; after_dot = false; seen = text; hidden = [] }

-- the offsets of the open openers, after a token at this offset
abbrev pub offsets_of : ℕ → List Opener → List Opener → List ℕ → List ℕ
offsets_of at old new offsets =
    if nat_lt (length old) (length new) then at ∷ offsets
    else drop (length old - length new) offsets

-- blanks are gaps in expressions outside heredocs
abbrev pub has_gaps_in : Context → Bool → Bool
has_gaps_in (Template _) inside = false
has_gaps_in Expression inside = not inside

-- how many blanks at the front of the visible text are a gap
abbrev pub gap_in : List Opener → List ℕ → ℕ
gap_in opens seen =
    if has_gaps_in (context opens) (in_heredoc opens) then prefix_len is_blank seen else 0

abbrev pub gap_len : State → ℕ
gap_len s = gap_in s.opens s.seen

-- the visible text after the gap
abbrev pub ahead : State → List ℕ
ahead s = drop (gap_len s) s.seen

abbrev pub skip_blanks : List ℕ → List ℕ
skip_blanks text = drop (prefix_len is_blank text) text

-- the text begins with a newline, or is empty
abbrev pub at_line_end : List ℕ → Bool
at_line_end [] = true
at_line_end (b ∷ text) = starts (b ∷ text) (codes "\n") || starts (b ∷ text) (codes "\r\n")

-- how many bytes the blanks and the marker at the front of a marker line have
abbrev pub closer_len : List ℕ → List ℕ → ℕ
closer_len marker line = prefix_len is_blank line + length marker

-- the first line of the text is the marker, ignoring blanks at both ends
abbrev pub is_marker_line : List ℕ → List ℕ → Bool
is_marker_line marker text =
    starts (skip_blanks text) marker
    && at_line_end (skip_blanks (drop (closer_len marker text) text))

-- a marker line begins after n bytes of the text, whose start is the start of a line
pub record IsMarkerLine (marker text : List ℕ) (n : ℕ) : Type 0 where
  pub within : n ≤ length text
  pub starts_line : 0 < n → get_or text (n - 1) 0 ≡ 10
  pub marked : IsTrue (is_marker_line marker (drop n text))

-- the first marker line begins after n bytes of the text
pub record IsFirstMarkerLine (marker text : List ℕ) (n : ℕ) : Type 0 where
  pub here : IsMarkerLine marker text n
  pub first : (m : ℕ) → m < n → ¬ IsMarkerLine marker text m

-- the visible text is this text and then `rest`, the text is a spelling, and no longer front is one
pub record IsLongest (opens : List Opener) (after_dot : Bool) (seen : List ℕ) (kind : Kind)
    (text rest : List ℕ) : Type 0 where
  pub whole : text ++ rest ≡ seen
  pub spelled : IsSpelling opens after_dot kind text rest
  pub longest : (other : Kind) (longer left : List ℕ) → longer ++ left ≡ seen
      → length text < length longer → ¬ IsSpelling opens after_dot other longer left

-- no front of the visible text is a spelling of any kind
abbrev pub HasNone : List Opener → Bool → List ℕ → Type 0
HasNone opens after_dot seen =
    (kind : Kind) (text rest : List ℕ) → text ++ rest ≡ seen
    → ¬ IsSpelling opens after_dot kind text rest

-- the text that is hidden from a marker line on
abbrev pub hides : List ℕ → List ℕ → Hidden
hides marker line =
    record {
      closer = take (closer_len marker line) line;
      after = drop (closer_len marker line) line;
    }

-- the visible and the hidden text after a token, where `rest` is the visible text that followed it
abbrev pub Leaves : Kind → List ℕ → List ℕ → List Hidden → List ℕ → List Hidden → Type 0
Leaves HeredocOpen text rest hidden seen' hidden' =
    (n : ℕ) × IsFirstMarkerLine (marker_of text) rest n × (seen' ≡ take n rest)
    × (hidden' ≡ hides (marker_of text) (drop n rest) ∷ hidden)
Leaves _ text rest hidden seen' hidden' = (seen' ≡ rest) × (hidden' ≡ hidden)

-- a token is read if it is the longest spelling
pub record Reads (s : State) (t : Lexeme) (next : State) : Type 0 where
  pub rest : List ℕ
  pub longest : IsLongest s.opens s.after_dot (ahead s) t.kind t.text rest
  pub start : t.start ≡ s.at + gap_len s
  pub inside : t.inside_heredoc ≡ in_heredoc s.opens
  pub at : next.at ≡ t.start + length t.text
  pub opens : next.opens ≡ open_after t.kind s.opens
  pub offsets : next.offsets ≡ offsets_of t.start s.opens next.opens s.offsets
  pub room : length next.opens ≤ max_open
  pub after_dot : next.after_dot ≡ is Dot t.kind
  pub leaves : Leaves t.kind t.text rest s.hidden next.seen next.hidden

-- a heredoc is closed once all of its visible text has been read
pub record Closes (s : State) (t : Lexeme) (next : State) : Type 0 where
  pub below : List Opener
  pub top : s.opens ≡ Heredoc ∷ below
  pub read : s.seen ≡ []
  pub rest : List ℕ
  pub above : List Hidden
  pub line : s.hidden ≡ record { closer = t.text; after = rest } ∷ above
  pub kind : t.kind ≡ HeredocClose
  pub start : t.start ≡ s.at
  pub inside : t.inside_heredoc ≡ true
  pub next_is : next
      ≡ record {
        at = s.at + length t.text;
        opens = below;
        offsets = drop 1 s.offsets;
        after_dot = false;
        seen = rest;
        hidden = above;
      }

-- one token leads from a state to the next
abbrev pub Next : State → Lexeme → State → Type 0
Next s t next = Reads s t next ⊎ Closes s t next

-- a list of tokens leads from one state to another
abbrev pub Run : State → List Lexeme → State → Type 0
Run s [] end = s ≡ end
Run s (t ∷ ts) end = (next : State) × Next s t next × Run next ts end

-- quotes, heredocs and sequences must be closed in a complete reading; braces, brackets and parens need not be
abbrev pub must_be_closed : Opener → Bool
must_be_closed Brace = false
must_be_closed Bracket = false
must_be_closed Paren = false
must_be_closed _ = true

abbrev pub unclosed_opener : List Opener → Option Opener
unclosed_opener [] = None
unclosed_opener (o ∷ opens) = if must_be_closed o then Some o else unclosed_opener opens

-- only a gap is left, and no quote, heredoc or sequence is open
abbrev pub IsComplete : State → Type 0
IsComplete s = (ahead s ≡ []) × (unclosed_opener s.opens ≡ None)

-- THE RELATION: the text is these tokens with gaps between them
abbrev pub Scans : List ℕ → List Lexeme → Type 0
Scans text ts = (end : State) × Run (begin text) ts end × IsComplete end
