use Rattle.std.proofs.Common.{◌≡◌, flat_map, map, take}
use Rattle.module_config.specs.Configs.{file_in, noted_of}
use Rattle.module_config.proofs.configure.files_of.Given as goal

abbrev pub invariant-loop-each : goal.invariant-loop-each
invariant-loop-each l = map noted_of l.all.items ≡ flat_map (λ p. file_in p.governor) (take l.each-index l.placed)
