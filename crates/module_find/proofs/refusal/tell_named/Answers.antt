use Rattle.std.proofs.Common.{◌∙◌, sym}
use Rattle.command_line.proofs.WriterLemmas.{all_taken, took_after, took_front}
use Rattle.module_find.proofs.refusal.tell_named.Goals as goal

pub returns-then-is_err-clause-took : goal.returns-then-is_err-clause-took
returns-then-is_err-clause-took g c = took_front _ _ _ _ _ (c.write_quoted.ensures.failed ∙ sym c.is_err.ensures.value ∙ c.if-is_err.true) c.write_quoted.ensures.took

pub returns-clause-took : goal.returns-clause-took
returns-clause-took g c =
    took_after _ _ _ _ _ _ (all_taken _ _ _ _ (c.write_quoted.ensures.failed ∙ sym c.is_err.ensures.value ∙ c.if-is_err.false) c.write_quoted.ensures.took) c.tell_words.ensures.took
