use Rattle.hcl_scan.specs.Inner.Found.{is_ordinary}
use Rattle.hcl_scan.proofs.LaneLemmas.{ordinary, run_within}
use Rattle.hcl_scan.proofs.lanes.ordinary_run.Goals as goal

pub returns-clause-count : goal.returns-clause-count
returns-clause-count c = ordinary c.args.seen.now c.type_inv.seen c.requires c.first_set.result c.first_set.ensures

pub returns-clause-within : goal.returns-clause-within
returns-clause-within c = run_within is_ordinary c.args.seen.now c.first_set.result c.requires (ordinary c.args.seen.now c.type_inv.seen c.requires c.first_set.result c.first_set.ensures)
