-- The contracts' views of the tokens of a source, and of the errors of a scan: our own types.
use Rattle.std.specs.Prelude.{◌≡◌, ℕ, List}
use Rattle.hcl_tokens.specs.Lexemes.{Lexeme}
use Rattle.hcl_source.specs.Places.{place}
use Rattle.hcl_tokens.specs.Scans.{Scans}
use Rattle.hcl_tokens.specs.Faults.{IsScanFault}
use Rattle.hcl_tokens.specs.declared.token.Token.{Token}
use Rattle.hcl_tokens.specs.declared.token.ScanError.{ScanError}
use Rattle.hcl_tokens.specs.declared.token.ScanError.TheVariants as error

-- a text and its tokens
pub record Scanned : Type 0 where
  pub text : List ℕ
  pub tokens : List Lexeme

-- the contracts' view of a token
abbrev pub lexeme : Token → Lexeme
lexeme t =
    record { kind = t.kind; text = t.text.now; start = t.start; inside_heredoc = t.inside_heredoc }

-- an error of a scan reports the one fault of the text, which then has no tokens
abbrev pub IsScanError : List ℕ → ScanError → Type 0
IsScanError text (error.Fault fault) =
    (at : ℕ) × IsScanFault text fault.kind at × (fault.at ≡ place text at)
    × ((ts : List Lexeme) → ¬ Scans text ts)
IsScanError text error.OutOfMemory = Unit {0}
