-- The scanner's mode, which the stack keeps in one byte, and the open constructs as an array. Our own choice of
-- representation.
use Rattle.std.specs.Prelude.{◌≡◌, ℕ, ◌≤◌, Bool, true, false, List, [], ◌∷◌, length, take, reverse, Option, Some, None}
use Rattle.hcl_tokens.specs.Lexemes.{max_open}
use Rattle.hcl_scan.specs.declared.stack.Opener.{Opener}
use Rattle.hcl_scan.specs.declared.stack.Opener.TheVariants as by
use Rattle.hcl_scan.specs.declared.stack.Opened.{Opened}
use Rattle.hcl_scan.specs.declared.stack.Reading.{Reading}
use Rattle.hcl_scan.specs.declared.stack.Reading.TheVariants.{Code, SequenceCode, QuotedText, HeredocText}

-- a `}` closes a sequence
abbrev pub closes_in : Reading → Bool
closes_in SequenceCode = true
closes_in _ = false

abbrev pub is_text : Reading → Bool
is_text QuotedText = true
is_text HeredocText = true
is_text _ = false

-- in literal text, whether it is in quotes
abbrev pub template_in : Reading → Option Bool
template_in QuotedText = Some true
template_in HeredocText = Some false
template_in _ = None

-- in a bracket, from the mode around it
abbrev pub group_reading : Reading → Reading
group_reading SequenceCode = SequenceCode
group_reading _ = Code

-- inside this opener, from the mode around it
abbrev pub reading_on : Opener → Reading → Reading
reading_on by.Quote around = QuotedText
reading_on (by.Heredoc closer_end outer_end) around = HeredocText
reading_on by.Sequence around = SequenceCode
reading_on by.Brace around = Code
reading_on by.Bracket around = group_reading around
reading_on by.Paren around = group_reading around

-- the first n of these, the last of them on top
abbrev pub stack_of : ℕ → List Opened → List Opened
stack_of n opened = reverse (take n opened)

-- the mode inside the top
abbrev pub top_reading : List Opened → Reading
top_reading [] = Code
top_reading (o ∷ stack) = reading_on o.by o.around

-- each has the mode around it
abbrev pub KnowAround : List Opened → Type 0
KnowAround [] = Unit {0}
KnowAround (o ∷ stack) = (o.around ≡ top_reading stack) × KnowAround stack

-- the array of the open constructs; there are n
pub record IsStackStorage (n : ℕ) (opened : List Opened) (reading : Reading) : Type 0 where
  pub room : length opened ≡ max_open
  pub within : n ≤ max_open
  pub around : KnowAround (stack_of n opened)
  pub read_so : reading ≡ top_reading (stack_of n opened)
