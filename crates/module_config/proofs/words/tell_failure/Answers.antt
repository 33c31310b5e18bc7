use Rattle.std.proofs.Common.{◌∙◌, List, ℕ, ap, subst}
use Rattle.command_line.specs.Rows.{TookBy}
use Rattle.module_config.specs.Governors.{shown_from}
use Rattle.module_config.proofs.WordLemmas.{told_fault_is}
use Rattle.module_config.proofs.words.tell_failure.Goals as goal

pub returns-in-Some-clause-took : goal.returns-in-Some-clause-took
returns-in-Some-clause-took g c =
    subst (λ (t : List ℕ). TookBy (g.S.ByteSink.failed c.tell_refusal.new.sink) (g.S.ByteSink.taken c.args.sink.now) (g.S.ByteSink.taken c.tell_refusal.new.sink) t)
    (told_fault_is _ c.display_path.result.now _ c.in-Some.fault c.text.result.now c.in-Some.is (c.display_path.ensures ∙ ap (shown_from c.args.start.now) c.as_slice.ensures.value) c.text.ensures) c.tell_refusal.ensures.took
