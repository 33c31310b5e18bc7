use Rattle.std.specs.Prelude.{Some}
use Rattle.std.proofs.Common.{subst}
use Rattle.command_line.specs.Rows.{TookBy}
use Rattle.module_find.specs.Refusals.{Refusal, refusal_line}
use Rattle.tree_lint.proofs.report.tell_comment.Goals as goal

pub returns-clause-took : goal.returns-clause-took
returns-clause-took g c =
    subst (λ (r : Refusal). TookBy (g.S.ByteSink.failed c.tell_refusal.new.sink) (g.S.ByteSink.taken c.args.sink.now) (g.S.ByteSink.taken c.tell_refusal.new.sink) (refusal_line r))
    (λ i. record { name = c.as_bytes.ensures.value i; at = Some c.args.fault.now.at; text = c.as_str.ensures.value i; snippet = c.args.snippet.now }) c.tell_refusal.ensures.took
