use Rattle.std.specs.Prelude.{false}
use Rattle.std.proofs.Common.{◌≡◌, ◌≤◌, ℕ, List, take}
use Rattle.tfrules_command.specs.Files.{max_module}
use Rattle.tfrules_command.specs.Inner.Steps.{AreFine}
use Rattle.tfrules_command.specs.Keeping.{Reached}
use Rattle.tfrules_command.proofs.gather.gather.Given as goal

abbrev pub invariant-loop-number : goal.invariant-loop-number
invariant-loop-number g l =
    AreFine (g.M.ModuleFiles.open_failed l.files) (g.M.ModuleFiles.read_failed l.files)
    × ((other : List ℕ) → g.M.ModuleFiles.told l.files other ≡ g.M.ModuleFiles.told l.initial.files other)
    × (l.size ≤ max_module)
    × Reached (g.M.ModuleFiles.told l.initial.files) (take l.number l.names) l.size l.facts
    × (g.M.ModuleFiles.is_out l.files ≡ false)
