use Rattle.std.proofs.Common.{◌∙◌, ap, sym, subst, List, arith}
use Rattle.hcl_grammar.specs.Numbered.{number_tokens}
use Rattle.tf_facts.specs.VariableBlocks.{AreDisjoint}
use Rattle.tf_facts.specs.References.{VariableSpan, variable_blocks_of_items}
use Rattle.tf_facts.specs.Inner.FoundViews.{blocks_listed}
use Rattle.tf_facts.proofs.OwnLemmas.{variable_blocks_are_disjoint}
use Rattle.tf_facts.proofs.OwnerLemmas.{owners_end, owners_more, owners_past}
use Rattle.tf_facts.proofs.owners.variable_blocks.Goals as goal

pub loop-number-preserved-in_default : goal.loop-number-preserved-in_default
loop-number-preserved-in_default c =
    owners_past (number_tokens c.args.accepted.now.tokens) c.args.items.now c.loop-number.found.items c.loop-number.number (omega (arith, c.loop-number-test.true, c.len-number-end.ensures))
    (λ i e. ap blocks_listed (sym c.in_default.is) ∙ c.variable_block_at.ensures i e) c.loop-number.invariant

pub loop-number-preserved : goal.loop-number-preserved
loop-number-preserved c =
    owners_more (number_tokens c.args.accepted.now.tokens) c.args.items.now c.loop-number.found.items c.loop-number.number c.push.new.self.items c.in-Some.block (omega (arith, c.loop-number-test.true, c.len-number-end.ensures))
    c.in_ok-push.ensures.items (λ i e. ap blocks_listed (sym c.in-Some.is) ∙ c.variable_block_at.ensures i e) c.loop-number.invariant

pub returns-clause-disjoint : goal.returns-clause-disjoint
returns-clause-disjoint c =
    subst (λ (own : List VariableSpan). AreDisjoint 0 own)
    (sym (owners_end (number_tokens c.args.accepted.now.tokens) c.args.items.now c.loop-number.found.items c.loop-number.number (omega (arith, c.loop-number-test.false, c.len-number-end.ensures)) c.loop-number.invariant
    ∙ ap (variable_blocks_of_items (number_tokens c.args.accepted.now.tokens)) c.requires))
    (variable_blocks_are_disjoint c.args.accepted.now.tokens)
