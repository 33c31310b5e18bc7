use Rattle.std.proofs.Common.{◌≡◌, ◌≤◌, ◌-◌, length}
use Rattle.std.specs.Prelude.{All}
use Rattle.hcl_tokens.specs.Scans.{Run, begin}
use Rattle.hcl_tokens.specs.Entries.{lexemes_of, IsEntry}
use Rattle.hcl_scan.specs.Inner.Scanners.{state_of, IsSound}
use Rattle.hcl_scan.proofs.tokens.scan.Given as goal

-- the tokens so far were read, up to here
abbrev pub invariant-loop-read : goal.invariant-loop-read
invariant-loop-read l = record { same_text : l.scanner.text.now ≡ l.source; sound : IsSound l.scanner; within : length l.entries ≤ l.scanner.at; parts : All (IsEntry l.source) l.entries; read : Run (begin l.source) (lexemes_of l.source l.entries) (state_of l.scanner) }

abbrev pub decreases-loop-read : goal.decreases-loop-read
decreases-loop-read l = length l.scanner.text.now - l.scanner.at
