use Rattle.std.proofs.Common.{◌∙◌}
use Rattle.tfrules_command.proofs.PageLemmas.{goes_after, goes_past, goes_waiting, goes_wrong_before, held, not_held}
use Rattle.command_line.proofs.WriterLemmas.{all_taken}
use Rattle.tfrules_command.proofs.report.write_parts.Goals as goal

pub returns-then-hold-clause-goes : goal.returns-then-hold-clause-goes
returns-then-hold-clause-goes g c = goes_waiting _ _ _ _ _ c.requires (held c.hold.result _ _ _ c.if-hold.true c.hold.ensures)

pub returns-in-Err-clause-goes : goal.returns-in-Err-clause-goes
returns-in-Err-clause-goes g c = goes_wrong_before _ _ _ _ c.hold.new.page.items _ _ c.in-Err.ensures.failed (not_held c.hold.result _ _ _ c.if-hold.false c.hold.ensures) c.in-Err.ensures.took

pub returns-then-hold-2-clause-goes : goal.returns-then-hold-2-clause-goes
returns-then-hold-2-clause-goes g c =
    goes_after _ _ _ _ c.hold.new.page.items c.send.new.page.items _ _ c.in_default.ensures.failed (not_held c.hold.result _ _ _ c.if-hold.false c.hold.ensures)
    (all_taken _ _ _ _ c.in_default.ensures.failed c.in_default.ensures.took) c.in_default.ensures.empty (held c.hold-2.result _ _ _ c.if-hold-2.true c.hold-2.ensures)

pub returns-clause-goes : goal.returns-clause-goes
returns-clause-goes g c =
    goes_past _ _ _ _ _ c.hold.new.page.items _ _ (not_held c.hold.result _ _ _ c.if-hold.false c.hold.ensures)
    (all_taken _ _ _ _ c.in_default.ensures.failed c.in_default.ensures.took) (not_held c.hold-2.result _ _ _ c.if-hold-2.false c.hold-2.ensures ∙ c.in_default.ensures.empty) c.write_each.ensures.took
