use Rattle.std.proofs.Common.{◌∙◌, ap, sym, arith}
use Rattle.hcl_grammar.specs.Numbered.{number_tokens}
use Rattle.tf_facts.specs.Inner.Values.{append_bodies}
use Rattle.tf_facts.proofs.BodyLemmas.{body_end, body_more, body_over, body_silent}
use Rattle.tf_facts.proofs.block.body.Goals as goal

pub returns-then-not-is_inside : goal.returns-then-not-is_inside
returns-then-not-is_inside c =
    body_over (number_tokens c.args.accepted.now.tokens) c.args.items.now c.args.from c.loop-number.body c.loop-number.number c.loop-number.invariant c.get-item.result c.get-item.ensures
    (sym c.is_inside.ensures ∙ c.if-not-is_inside.true)

pub loop-number-preserved-then-not-is_attribute : goal.loop-number-preserved-then-not-is_attribute
loop-number-preserved-then-not-is_attribute c =
    let ts = number_tokens c.args.accepted.now.tokens in
    body_silent ts c.args.items.now c.args.from c.loop-number.body c.loop-number.number c.loop-number.invariant c.get-item.result c.get-item.ensures
    (sym c.is_inside.ensures ∙ c.if-not-is_inside.false) (c.is_attribute.ensures c.if-not-is_attribute.true ts)

pub loop-number-preserved : goal.loop-number-preserved
loop-number-preserved c =
    body_more (number_tokens c.args.accepted.now.tokens) c.args.items.now c.args.from c.loop-number.body c.loop-number.number c.loop-number.invariant c.get-item.result c.get-item.ensures
    (sym c.is_inside.ensures ∙ c.if-not-is_inside.false) c.both-body.result (c.both-body.ensures ∙ ap (append_bodies c.loop-number.body) c.body_of_item.ensures)

pub returns : goal.returns
returns c =
    body_end (number_tokens c.args.accepted.now.tokens) c.args.items.now c.args.from c.loop-number.body c.loop-number.number c.loop-number.invariant (omega (arith, c.loop-number-test.false, c.len-number-end.ensures))
