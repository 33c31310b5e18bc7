use Rattle.std.specs.Prelude.{◌==◌}
use Rattle.std.specs.List.{slice_split}
use Rattle.module_config.proofs.ListLemmas.{unknown}
use Rattle.module_config.proofs.list.rules_in.Goals as goal

pub returns-in-Some : goal.returns-in-Some
returns-in-Some c = c.unless_empty.ensures (slice_split (λ b. b == 44) c.args.list.now) c.in-Some.ensures

pub returns-in-None : goal.returns-in-None
returns-in-None c = unknown (slice_split (λ b. b == 44) c.args.list.now) c.in-None.ensures
