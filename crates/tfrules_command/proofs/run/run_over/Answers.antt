use Rattle.std.proofs.Common.{inr}
use Rattle.tfrules_command.specs.Files.{numbered_files}
use Rattle.tfrules_command.specs.Report.{report_row}
use Rattle.tfrules_command.specs.Asked.{request_of}
use Rattle.tfrules_command.proofs.EndRowLemmas.{reported_row, rising, stopped_row}
use Rattle.tfrules_command.proofs.run.run_over.Goals as goal

pub returns-in-Err-clause-row : goal.returns-in-Err-clause-row
returns-in-Err-clause-row g c =
    let w = c.refuse.ensures in
    (w.0, stopped_row (g.M.ModuleFiles.told c.args.files.now) (request_of c.args.options.now) _ _ c.in-Err.stopped.name.now c.in-Err.stopped.why w.0 c.in-Err.ensures.gathers w.1, w.2)

pub returns-in-Ok-clause-row : goal.returns-in-Ok-clause-row
returns-in-Ok-clause-row g c =
    let gathered = c.in_default.ensures.gathers in
    let found = c.in-Ok.ensures (numbered_files 0 gathered.1.1.sources) gathered.1.1.kept_is (rising 0 gathered.1.1.sources) in (
      report_row (request_of c.args.options.now) c.in-Ok.issues,
      inr (reported_row (g.M.ModuleFiles.told c.args.files.now) (request_of c.args.options.now) _ _ _ _ c.in-Ok.issues gathered.0 gathered.1.1 found),
      c.show.ensures,
    )
