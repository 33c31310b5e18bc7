-- Which token lists are files, and the one fault of each list that isn't. Tokens are refused at the first token without
-- a row in the grammar's table, or at the end of the text if that has no row. Our own choice is the bound on open
-- directives, with its fault at the `%{` of the first directive beyond it.
use Rattle.std.specs.Prelude.{◌≡◌, ◌⊎◌, ℕ, List, Option, Some, None, Result, Ok, Err, map, length, get_or}
use Rattle.hcl_tokens.specs.Faults.{IsScanFault}
use Rattle.hcl_tokens.specs.Lexemes.{Lexeme}
use Rattle.hcl_tokens.specs.Scanned.{Scanned}
use Rattle.hcl_tokens.specs.Scans.{Scans}
use Rattle.hcl_source.specs.Places.{place}
use Rattle.hcl_source.specs.declared.fault.Fault.{Fault}
use Rattle.hcl_source.specs.declared.fault.FaultKind.{FaultKind}
use Rattle.hcl_source.specs.declared.fault.FaultKind.TheVariants as fault
use Rattle.hcl_grammar.specs.declared.refusal.Refusal.{Refusal}
use Rattle.hcl_grammar.specs.declared.refusal.Refusal.TheVariants.{UnexpectedToken, UnexpectedEnd, TooDeep}
use Rattle.hcl_grammar.specs.Classes.{lookaheads}
use Rattle.hcl_grammar.specs.Predictor.{refusal_of}

-- the tokens are a file
abbrev pub IsAccepted : List Lexeme → Type 0
IsAccepted tokens = refusal_of (lookaheads tokens) ≡ None

-- the offset at which the token of this number begins
abbrev pub start_of : List Lexeme → ℕ → ℕ
start_of tokens n = get_or (map (λ t. t.start) tokens) n 0

-- the fault that reports a refusal of a source's tokens
abbrev pub fault_at : Scanned → Refusal → Fault
fault_at s (UnexpectedToken n) =
    record { kind = fault.UnexpectedToken; at = place s.text (start_of s.tokens n) }
fault_at s UnexpectedEnd = record { kind = fault.UnexpectedEnd; at = place s.text (length s.text) }
fault_at s (TooDeep n) = record { kind = fault.TooDeep; at = place s.text (start_of s.tokens n) }

abbrev pub verdict_by : Scanned → Option Refusal → Result Scanned Fault
verdict_by s None = Ok s
verdict_by s (Some r) = Err (fault_at s r)

-- the tokens of a source, if they are a file, or else their one fault
abbrev pub verdict : Scanned → Result Scanned Fault
verdict s = verdict_by s (refusal_of (lookaheads s.tokens))

-- THE VERDICT on a text: it is a file of these tokens, or has this one fault, of the scan or of the grammar
abbrev pub IsTextVerdict : List ℕ → Result Scanned Fault → Type 0
IsTextVerdict text result =
    ((kind : FaultKind) × (at : ℕ) × IsScanFault text kind at
    × (result ≡ Err (record { kind = kind; at = place text at })))
    ⊎ ((ts : List Lexeme) × Scans text ts
    × (result ≡ verdict (record { text = text; tokens = ts })))
