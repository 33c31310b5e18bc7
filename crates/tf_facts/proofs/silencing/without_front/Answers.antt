use Rattle.std.proofs.Common.{◌∙◌, sym}
use Rattle.std.proofs.lemmas.List.{take_rest}
use Rattle.tf_facts.specs.Silencing.{is_margin}
use Rattle.tf_facts.proofs.FrontLemmas.{front_here, front_past}
use Rattle.tf_facts.proofs.silencing.without_front.Goals as goal

pub returns-then-not-is_margin : goal.returns-then-not-is_margin
returns-then-not-is_margin c =
    take_rest c.args.text.now c.loop-start.start
    ∙ sym (front_here is_margin c.args.text.now c.loop-start.start c.loop-start-test.true (sym c.is_margin.ensures ∙ c.if-not-is_margin.true))
    ∙ c.loop-start.invariant

pub loop-start-preserved : goal.loop-start-preserved
loop-start-preserved c =
    sym (front_past is_margin c.args.text.now c.loop-start.start c.loop-start-test.true (sym c.is_margin.ensures ∙ c.if-not-is_margin.false)) ∙ c.loop-start.invariant
