use Rattle.std.proofs.Common.{◌∙◌, ap, inl, refl}
use Rattle.command_line.specs.Rows.{writer}
use Rattle.lint_command.proofs.EndingLemmas.{closes_well}
use Rattle.tree_lint.specs.Runs.{worse_status}
use Rattle.lint_command.proofs.run.close.Goals as goal

pub returns-in_default : goal.returns-in_default
returns-in_default g c = inl (c.in_default.ensures.lost, refl, c.tell_lost.ensures.took, c.tell_lost.ensures.exit)

pub returns : goal.returns
returns g c =
    closes_well c.args.rest.manner.form c.args.rest.quiet c.args.rest.configured.now c.args.rest.faults.now c.args.ran.now c.foot_of.new.ran (writer g.O.ByteSink c.args.streams.now.out c.write_parts.new.sink) (writer g.E.ByteSink c.args.streams.now.err c.finish.new.err) _ _ _ _ _
    (c.worse_status-status.ensures ∙ ap (worse_status c.args.ran.now.status) c.fault_status.ensures) c.in-Ok.ensures.foot c.foot_of.ensures.counts c.foot_of.ensures.status c.as_slice.ensures.value c.write_parts.ensures.took c.finish.ensures.took c.finish.ensures.exit
