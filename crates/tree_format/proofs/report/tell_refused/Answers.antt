use Rattle.std.proofs.Common.{◌∙◌, ap, append-nil, sym, subst}
use Rattle.command_line.specs.Rows.{TookBy}
use Rattle.tree_format.specs.Reports.{snippet_text}
use Rattle.command_line.proofs.WriterLemmas.{all_taken, took_after}
use Rattle.tree_format.proofs.report.tell_refused.Goals as goal

pub returns-in-Some-clause-took : goal.returns-in-Some-clause-took
returns-in-Some-clause-took g c =
    took_after _ _ _ _ _ _ (all_taken _ _ _ _ (c.tell_fault.ensures.failed ∙ sym c.is_err.ensures.value ∙ c.if-is_err.false) c.tell_fault.ensures.took)
    (subst (TookBy _ _ _) (append-nil _ ∙ c.as_slice.ensures.value ∙ sym (ap snippet_text c.in-Some.is)) c.write_parts.ensures.took)
