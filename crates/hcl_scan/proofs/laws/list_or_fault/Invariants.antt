use Rattle.std.proofs.Common.{◌≡◌, ◌-◌, List, length}
use Rattle.hcl_tokens.specs.Lexemes.{Lexeme}
use Rattle.hcl_tokens.specs.Scans.{Run, begin}
use Rattle.hcl_scan.specs.Inner.Scanners.{state_of, IsSound}
use Rattle.hcl_scan.proofs.laws.list_or_fault.Given as goal

-- some tokens were read, up to here
abbrev pub invariant-loop-read : goal.invariant-loop-read
invariant-loop-read l = record { same_text : l.scanner.text.now ≡ l.text; sound : IsSound l.scanner; read : (ts : List Lexeme) × Run (begin l.text) ts (state_of l.scanner) }

abbrev pub decreases-loop-read : goal.decreases-loop-read
decreases-loop-read l = length l.scanner.text.now - l.scanner.at
