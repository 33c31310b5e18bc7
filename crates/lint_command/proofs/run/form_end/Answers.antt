use Rattle.lint_command.proofs.EndingLemmas.{form_ends}
use Rattle.lint_command.proofs.run.form_end.Goals as goal

pub returns-clause-foot : goal.returns-clause-foot
returns-clause-foot c =
    form_ends (λ v. v.items) c.args.form c.args.status c.args.ran.now c.add_faults.new.self c.keep_configured.new.kept c.args.rest.faults.now c.args.rest.configured.now _ _ c.foot.result c.add_faults.ensures c.keep_configured.ensures c.if-not-ran.false c.in_ok-refusals.ensures
    c.as_slice.ensures.value c.foot.ensures
