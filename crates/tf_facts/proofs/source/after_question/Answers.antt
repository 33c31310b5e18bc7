use Rattle.std.proofs.Common.{◌∙◌, ◌+◌, sym, eq-eqb}
use Rattle.std.proofs.lemmas.List.{take_rest}
use Rattle.tf_facts.proofs.FrontLemmas.{question_here}
use Rattle.tf_facts.proofs.source.after_question.Goals as goal

pub returns-then-text-start-eq63 : goal.returns-then-text-start-eq63
returns-then-text-start-eq63 c =
    take_rest c.args.text.now (c.loop-start.start + 1)
    ∙ sym (question_here c.args.text.now c.loop-start.start c.loop-start-test.true (eq-eqb _ 63 c.if-text-start-eq63.true))
    ∙ c.loop-start.invariant
