use Rattle.std.proofs.Common.{◌∙◌, List, ℕ, ap, subst}
use Rattle.command_line.specs.Rows.{TookBy}
use Rattle.module_find.specs.Refusals.{refusal_line}
use Rattle.module_find.proofs.FaultLemmas.{fault_said}
use Rattle.module_find.proofs.refusal.tell_fault.Goals as goal

pub returns-in-Some-clause-took : goal.returns-in-Some-clause-took
returns-in-Some-clause-took g c =
    subst (λ (t : List ℕ). TookBy (g.S.ByteSink.failed c.tell_refusal.new.sink) (g.S.ByteSink.taken c.args.sink.now) (g.S.ByteSink.taken c.tell_refusal.new.sink) t)
    (ap refusal_line c.of_name.ensures ∙ fault_said c.args.found.now c.in-Some.fault c.reported_fault.result c.as_slice.result.now c.text.result.now c.in-Some.is c.reported_fault.ensures c.as_slice.ensures.value c.text.ensures) c.tell_refusal.ensures.took
