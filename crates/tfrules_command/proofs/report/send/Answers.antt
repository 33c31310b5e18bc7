use Rattle.std.proofs.Common.{◌≤◌, arith, length}
use Rattle.tfrules_command.proofs.ReportPartLemmas.{retold}
use Rattle.command_line.proofs.WriterLemmas.{took_all, took_part}
use Rattle.tfrules_command.proofs.report.send.Goals as goal

pub returns-in-Err-clause-took : goal.returns-in-Err-clause-took
returns-in-Err-clause-took g c =
    let within : c.in-Err.fault.written ≤ length c.as_slice.result.now = omega (arith, c.in-Err.ensures.written) in
    retold _ _ _ _ _ c.as_slice.ensures.value (took_part _ _ _ c.as_slice.result.now c.in-Err.fault.written c.in-Err.ensures.failed within c.in-Err.ensures.err)

pub returns-clause-took : goal.returns-clause-took
returns-clause-took g c = retold _ _ _ _ _ c.as_slice.ensures.value (took_all _ _ _ c.as_slice.result.now c.in_default.ensures.failed c.in_default.ensures.ok)
