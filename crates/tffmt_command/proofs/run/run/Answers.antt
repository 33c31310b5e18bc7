use Rattle.std.proofs.Common.{◌∙◌}
use Rattle.tffmt_command.proofs.AnswerLemmas.{row_of_text, row_of_fault, fault_loads, no_read_fault}
use Rattle.tffmt_command.proofs.run.run.Goals as goal

pub returns-in-Ok : goal.returns-in-Ok
returns-in-Ok g c =
    let w = c.answer.ensures in
    let l = c.in-Ok.ensures.loaded in
    (w.0, row_of_text c.args.options.now _ _ _ _ l.0 w.0 c.in-Ok.ensures.failed l.1 l.3.0 l.3.1 l.3.2 w.1, w.2)

pub returns-in-Err-Fault : goal.returns-in-Err-Fault
returns-in-Err-Fault g c =
    let w = c.refuse.ensures in
    let l = c.in-Err-Fault.ensures.loaded in
    let x = fault_loads l.0 _ _ _ c.in-Err-Fault.field-0-is l.3 in
    let fine = c.in-Err-Fault.ensures.failed ∙ no_read_fault _ _ c.in-Err-Fault.field-0-is in
    (w.0, row_of_fault c.args.options.now _ _ _ l.0 c.in-Err-Fault.fault w.0 fine l.1 x.0 x.1 w.1, w.2)
