use Rattle.tffmt_command.proofs.AnswerLemmas.{refused_text}
use Rattle.tffmt_command.proofs.run.answer.Goals as goal

pub returns-in-Err-Fault : goal.returns-in-Err-Fault
returns-in-Err-Fault g c =
    let shown = c.refuse-in-Err-Fault.ensures in
    (shown.0, refused_text c.args.options.now c.args.source.now c.in-Err-Fault.field-0 c.in-Err-Fault.fault c.in-Err-Fault.field-0-is c.in-Err-Fault.ensures.err shown.0 shown.1, shown.2)
