use Rattle.std.proofs.Common.{◌∙◌, sym}
use Rattle.command_line.proofs.WriterLemmas.{all_taken, took_after, took_front}
use Rattle.tree_format.proofs.tally.tell_some.Goals as goal

pub returns-then-is_err-clause-took : goal.returns-then-is_err-clause-took
returns-then-is_err-clause-took g c = took_front _ _ _ _ _ (c.tell_counts.ensures.failed ∙ sym c.is_err.ensures.value ∙ c.if-is_err.true) c.tell_counts.ensures.took

pub returns-then-is_err-2-clause-took : goal.returns-then-is_err-2-clause-took
returns-then-is_err-2-clause-took g c =
    took_after _ _ _ _ _ _ (all_taken _ _ _ _ (c.tell_counts.ensures.failed ∙ sym c.is_err.ensures.value ∙ c.if-is_err.false) c.tell_counts.ensures.took)
    (took_front _ _ _ _ _ (c.tell_faults.ensures.failed ∙ sym c.is_err-2.ensures.value ∙ c.if-is_err-2.true) c.tell_faults.ensures.took)

pub returns-clause-took : goal.returns-clause-took
returns-clause-took g c =
    took_after _ _ _ _ _ _ (all_taken _ _ _ _ (c.tell_counts.ensures.failed ∙ sym c.is_err.ensures.value ∙ c.if-is_err.false) c.tell_counts.ensures.took)
    (took_after _ _ _ _ _ _ (all_taken _ _ _ _ (c.tell_faults.ensures.failed ∙ sym c.is_err-2.ensures.value ∙ c.if-is_err-2.false) c.tell_faults.ensures.took) c.write_parts.ensures.took)
