use Rattle.std.proofs.Common.{◌∙◌, sym}
use Rattle.std.proofs.lemmas.List.{take_rest}
use Rattle.hcl_tokens.specs.Spelling.{is_blank}
use Rattle.tf_facts.proofs.FrontLemmas.{front_here, front_past}
use Rattle.tf_facts.proofs.silencing.without_blanks.Goals as goal

pub returns-then-not-is_blank : goal.returns-then-not-is_blank
returns-then-not-is_blank c =
    take_rest c.args.text.now c.loop-start.start
    ∙ sym (front_here is_blank c.args.text.now c.loop-start.start c.loop-start-test.true (sym c.is_blank.ensures ∙ c.if-not-is_blank.true))
    ∙ c.loop-start.invariant

pub loop-start-preserved : goal.loop-start-preserved
loop-start-preserved c =
    sym (front_past is_blank c.args.text.now c.loop-start.start c.loop-start-test.true (sym c.is_blank.ensures ∙ c.if-not-is_blank.false)) ∙ c.loop-start.invariant
