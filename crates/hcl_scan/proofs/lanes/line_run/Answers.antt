use Rattle.std.proofs.Common.{◌==◌, not}
use Rattle.hcl_scan.proofs.LaneLemmas.{line, run_within}
use Rattle.hcl_scan.proofs.lanes.line_run.Goals as goal

pub returns-clause-count : goal.returns-clause-count
returns-clause-count c = line c.args.seen.now c.type_inv.seen c.requires c.first_set.result c.first_set.ensures

pub returns-clause-within : goal.returns-clause-within
returns-clause-within c = run_within (λ b. not (b == 10)) c.args.seen.now c.first_set.result c.requires (line c.args.seen.now c.type_inv.seen c.requires c.first_set.result c.first_set.ensures)
