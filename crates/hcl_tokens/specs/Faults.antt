-- Why a text has no tokens: its longest reading ends, and lacks one thing there. The kinds of faults and their places
-- are our own choice.
use Rattle.std.specs.Prelude.{◌≡◌, ℕ, ◌+◌, ◌<◌, List, [], ◌∷◌, length, if◌then◌else◌, codes, Option, Some, None}
use Rattle.hcl_tokens.specs.Lexemes.{Lexeme, Opener, Quote, Sequence, marker_of, open_after, max_open}
use Rattle.hcl_tokens.specs.Spelling.{starts, context, Context, Template, Expression}
use Rattle.hcl_tokens.specs.Scans.{State, begin, ahead, gap_len, must_be_closed, unclosed_opener, IsLongest, HasNone, IsMarkerLine, Next, Run}
use Rattle.hcl_source.specs.declared.fault.FaultKind.{FaultKind}
use Rattle.hcl_source.specs.declared.fault.FaultKind.TheVariants.{InvalidCharacter, UnterminatedQuote, UnterminatedComment, UnterminatedHeredoc, UnterminatedTemplate, InvalidEscape, TooDeep}
use Rattle.hcl_tokens.specs.declared.token.Kind.{Kind}
use Rattle.hcl_tokens.specs.declared.token.Kind.TheVariants.{HeredocOpen}

-- the fault at the end of the visible text, by the innermost quote, heredoc or sequence that is open
abbrev pub end_fault : Option Opener → Option FaultKind
end_fault (Some Quote) = Some UnterminatedQuote
end_fault (Some Sequence) = Some UnterminatedTemplate
end_fault _ = None

-- the fault if the visible text isn't empty and begins no token
abbrev pub no_token_fault : Context → List ℕ → FaultKind
no_token_fault Expression seen =
    if starts seen (codes "/*") then UnterminatedComment else InvalidCharacter
no_token_fault (Template _) seen =
    if starts seen (codes "\\") then InvalidEscape else UnterminatedQuote

-- why a reading can't be continued from a state
pub data Lacks (s : State) (kind : FaultKind) : Type 0 where
  at_end : ahead s ≡ [] → end_fault (unclosed_opener s.opens) ≡ Some kind → Lacks s kind
  no_token : 0 < length (ahead s) → HasNone s.opens s.after_dot (ahead s)
      → kind ≡ no_token_fault (context s.opens) (ahead s) → Lacks s kind
  too_deep : (k : Kind) (text rest : List ℕ) → IsLongest s.opens s.after_dot (ahead s) k text rest
      → max_open < length (open_after k s.opens) → kind ≡ TooDeep → Lacks s kind
  no_marker_line : (text rest : List ℕ)
      → IsLongest s.opens s.after_dot (ahead s) HeredocOpen text rest → length s.opens < max_open
      → ((n : ℕ) → ¬ IsMarkerLine (marker_of text) rest n) → kind ≡ UnterminatedHeredoc
      → Lacks s kind

-- where the innermost Quote, Heredoc or Sequence was opened
abbrev pub unclosed_offset : List Opener → List ℕ → ℕ
unclosed_offset (o ∷ opens) (at ∷ offsets) =
    if must_be_closed o then at else unclosed_offset opens offsets
unclosed_offset _ _ = 0

-- an unterminated quote or template has its fault at its opener, any other fault is at the end of the reading
abbrev pub fault_offset : State → FaultKind → ℕ
fault_offset s UnterminatedQuote = unclosed_offset s.opens s.offsets
fault_offset s UnterminatedTemplate = unclosed_offset s.opens s.offsets
fault_offset s _ = s.at + gap_len s

-- THE FAULT of a text without tokens: the lack at the end of its longest reading
pub record IsScanFault (text : List ℕ) (kind : FaultKind) (at : ℕ) : Type 0 where
  pub tokens : List Lexeme
  pub end : State
  pub read : Run (begin text) tokens end
  pub longest : (t : Lexeme) (next : State) → ¬ Next end t next
  pub lacks : Lacks end kind
  pub at_is : at ≡ fault_offset end kind
