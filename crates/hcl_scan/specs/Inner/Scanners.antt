-- The scanner's state as a state of the reading, and its next step: a token, or the fault. Our own choice of
-- representation: offsets into one text in place of its parts.
use Rattle.std.specs.Prelude.{◌≡◌, ℕ, ◌+◌, ◌<◌, ◌≤◌, Bool, true, false, IsTrue, List, [], ◌∷◌, length, slice_range}
use Rattle.std.specs.Str.{IsCharBoundary}
use Rattle.hcl_source.specs.Load.{max_source}
use Rattle.hcl_tokens.specs.Lexemes.{Opener, Sequence, in_heredoc, closes_sequence, max_open}
use Rattle.hcl_tokens.specs.Spelling.{Context, Template, Expression, context}
use Rattle.hcl_tokens.specs.Scans.{State, Next, IsLongest, gap_len}
use Rattle.hcl_tokens.specs.Faults.{Lacks, fault_offset}
use Rattle.hcl_tokens.specs.Entries.{IsEntry, lexeme_of}
use Rattle.hcl_scan.specs.Inner.Openings.{opener_of, openers_of, offsets_in, hidden_of, top_closes}
use Rattle.hcl_tokens.specs.declared.token.TokenEntry.{TokenEntry}
use Rattle.hcl_scan.specs.declared.stack.Opener as kept
use Rattle.hcl_scan.specs.declared.stack.Opener.TheVariants.{Heredoc}
use Rattle.hcl_scan.specs.declared.stack.Opened.{Opened}
use Rattle.hcl_scan.specs.declared.scanner.Scanner.{Scanner}
use Rattle.hcl_scan.specs.declared.scanner.FaultAt.{FaultAt}

-- the state of the reading
abbrev pub state_of : Scanner → State
state_of s = record { at = s.at; opens = openers_of s.stack; offsets = offsets_in s.stack; after_dot = s.after_dot; seen = slice_range s.text.now s.at s.end; hidden = hidden_of s.text.now s.stack s.end }

-- a sequence opens in a template, all else in an expression
abbrev pub fits_in : Opener → Context → Bool
fits_in Sequence (Template quoted) = true
fits_in Sequence Expression = false
fits_in _ (Template quoted) = false
fits_in _ Expression = true

-- the visible text of a heredoc ends before its closing marker, and the visible text around it after
abbrev pub AreEndsBy : List ℕ → ℕ → kept.Opener → (ℕ → Type 0) → Type 0
AreEndsBy text end (Heredoc closer_end outer_end) around = (end < closer_end) × (closer_end ≤ outer_end) × IsCharBoundary text closer_end × IsCharBoundary text outer_end × around outer_end
AreEndsBy text end _ around = around end

-- the stack fits this text, with the visible text ending at `end`
abbrev pub IsStack : List ℕ → List Opened → ℕ → Type 0
IsStack text [] end = end ≡ length text
IsStack text (o ∷ stack) end = (top_closes (o ∷ stack) ≡ closes_sequence (openers_of (o ∷ stack))) × IsTrue (fits_in (opener_of o.by) (context (openers_of stack))) × IsCharBoundary text o.at × AreEndsBy text end o.by (IsStack text stack)

pub record IsSound (s : Scanner) : Type 0 where
  pub small : length s.text.now ≤ max_source
  pub order : s.at ≤ s.end
  pub within : s.end ≤ length s.text.now
  pub start : IsCharBoundary s.text.now s.at
  pub end : IsCharBoundary s.text.now s.end
  pub stack : IsStack s.text.now s.stack s.end
  pub depth : length s.stack ≤ max_open

-- a token begins here
pub record IsStart (s : Scanner) (start : ℕ) : Type 0 where
  pub gap : start ≡ s.at + gap_len (state_of s)
  pub within : start ≤ s.end
  pub boundary : IsCharBoundary s.text.now start

-- the entry is the longest next token
pub record IsNext (s : Scanner) (e : TokenEntry) : Type 0 where
  pub start : IsStart s e.start
  pub order : e.start < e.end
  pub within : e.end ≤ s.end
  pub boundary : IsCharBoundary s.text.now e.end
  pub inside : e.inside_heredoc ≡ in_heredoc (openers_of s.stack)
  pub longest : IsLongest (openers_of s.stack) s.after_dot (slice_range s.text.now e.start s.end) e.kind (slice_range s.text.now e.start e.end) (slice_range s.text.now e.end s.end)

-- a token was read
pub record Moves (s : Scanner) (e : TokenEntry) (next : Scanner) : Type 0 where
  pub same_text : next.text ≡ s.text
  pub entry : IsEntry s.text.now e
  pub read : Next (state_of s) (lexeme_of s.text.now e) (state_of next)
  pub sound : IsSound next
  pub further : s.at < next.at

-- the reading ends here, with this fault
pub record IsStopped (s : Scanner) (fault : FaultAt) : Type 0 where
  pub lacks : Lacks (state_of s) fault.kind
  pub at : fault.at ≡ fault_offset (state_of s) fault.kind
  pub boundary : IsCharBoundary s.text.now fault.at
