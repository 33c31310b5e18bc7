use Rattle.std.proofs.Common.{◌≡◌, All, true, take}
use Rattle.tree_devices.specs.MemoryFiles.{files_in}
use Rattle.tree_devices.specs.Inner.Told.{IsReadyIn}
use Rattle.tree_devices.proofs.runs.has_good_run.Given as goal

-- the files so far are ready
abbrev pub invariant-loop-each : goal.invariant-loop-each
invariant-loop-each l = l.are_ready ≡ true → All (IsReadyIn (files_in l.tree.known.items l.tree.files.items l.tree.links.items)) (take l.each-index l.found)
