use Rattle.std.proofs.Common.{flat_map, take}
use Rattle.module_find.specs.KeptRefusals.{KeepsAll}
use Rattle.module_config.specs.Refusals.{config_refusals}
use Rattle.module_config.proofs.keep.keep_files.Given as goal

abbrev pub invariant-loop-file : goal.invariant-loop-file
invariant-loop-file l = KeepsAll l.initial.kept l.kept (flat_map (config_refusals l.start) (take l.file-index l.files))
