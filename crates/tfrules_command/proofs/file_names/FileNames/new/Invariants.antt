use Rattle.std.proofs.Common.{◌≡◌, ◌≤◌, ◌<◌, drop, length, map}
use Rattle.std.specs.Prelude.{fold}
use Rattle.tfrules_command.specs.Line.{NoneTwice, each_once, with_name}
use Rattle.tfrules_command.proofs.file_names.FileNames.new.Given as goal

abbrev pub invariant-loop-name : goal.invariant-loop-name
invariant-loop-name l =
    (fold with_name (map (λ name. name.now) l.names.items) (map (λ name. name.now) (drop l.name-index l.given)) ≡ each_once (map (λ name. name.now) l.given))
    × (length l.names.items ≤ l.name-index)
    × (0 < l.name-index → 0 < length l.names.items)
    × NoneTwice (map (λ name. name.now) l.names.items)
