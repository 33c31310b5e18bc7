use Rattle.std.proofs.Common.{◌≡◌, map, take}
use Rattle.std.specs.Prelude.{filter}
use Rattle.module_config.specs.Inner.Looking.{counts}
use Rattle.module_config.proofs.governor.all_counted.Given as goal

abbrev pub invariant-loop-folder : goal.invariant-loop-folder
invariant-loop-folder l = map (λ folder. folder.now) l.kept.items ≡ filter (counts l.current l.own) (map (λ folder. folder.now) (take l.folder-index l.folders))
