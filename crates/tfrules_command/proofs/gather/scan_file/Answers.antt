use Rattle.std.proofs.Common.{◌≤◌, ◌+◌, ap, arith, length}
use Rattle.tfrules_command.specs.Files.{max_module}
use Rattle.tfrules_command.proofs.GatherLemmas.{stops_unscanned}
use Rattle.tfrules_command.proofs.gather.scan_file.Goals as goal

pub returns-in-Err : goal.returns-in-Err
returns-in-Err c =
    let fits : c.args.size + length c.args.source.now ≤ max_module = omega (arith, c.if-all-gt-MAX_MODULE.false, ap length c.text.ensures.value) in
    stops_unscanned c.args.source.now c.args.size c.in-Err.error c.stop_of_scan.result c.stop_of_scan.ensures fits c.in-Err.ensures.err
