-- A file that is kept, by the steps of the code.
use Rattle.std.specs.Prelude.{◌≡◌, ◌≤◌, ◌<◌, ◌+◌, ℕ, List, Result, Ok, Err, length}
use Rattle.hcl_grammar.specs.Verdict.{IsTextVerdict}
use Rattle.hcl_tokens.specs.Scanned.{Scanned}
use Rattle.tf_rules.specs.Stored.{Stored, with_file}
use Rattle.tfrules_command.specs.Files.{max_module}
use Rattle.tfrules_command.specs.declared.stop.Stop.{Stop}
use Rattle.tfrules_command.specs.declared.stop.Stop.TheVariants as stop

-- the answer of keeping a text after others of this many bytes
abbrev pub Keeps : List ℕ → ℕ → ℕ → Stored → Stored → Result ℕ Stop → Type 0
Keeps text size number old new (Ok more) =
    (source : Scanned) × IsTextVerdict text (Ok source) × (more ≡ size + length text)
    × (more ≤ max_module) × (new ≡ with_file old (record { number = number; source = source }))
Keeps text size number old new (Err (stop.Refused fault)) =
    (size + length text ≤ max_module) × IsTextVerdict text (Err fault)
Keeps text size number old new (Err stop.TooLarge) = max_module < size + length text
Keeps text size number old new (Err stop.NotOpened) = ⊥
Keeps text size number old new (Err stop.NotRead) = ⊥
Keeps text size number old new (Err stop.OutOfMemory) = Unit {0}
