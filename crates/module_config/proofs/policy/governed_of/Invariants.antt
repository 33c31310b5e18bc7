use Rattle.std.proofs.Common.{◌≡◌, flat_map, map}
use Rattle.module_config.specs.Options.{options_of}
use Rattle.module_config.specs.Settled.{governed_in, pair_of}
use Rattle.module_config.proofs.policy.governed_of.Given as goal

abbrev pub invariant-loop-each : goal.invariant-loop-each
invariant-loop-each l = map pair_of l.governed.items ≡ flat_map (governed_in (options_of l.line) l.files) l.yielded
