use Rattle.std.proofs.Common.{◌∙◌, ap, sym, map}
use Rattle.tf_facts.specs.Inner.Blocks.{block_view}
use Rattle.tf_facts.specs.References.{is_self_reference}
use Rattle.tf_facts.specs.Inner.Spelled.{spelling_of}
use Rattle.tf_facts.proofs.OwnLemmas.{decides, none_left, own_other}
use Rattle.tf_facts.proofs.references.is_self_reference.Goals as goal

pub returns-in_default : goal.returns-in_default
returns-in_default c =
    sym (own_other (map block_view c.args.blocks.now) c.args.number c.args.reference c.in_default.not-Variable)

pub returns-then-next-blocks : goal.returns-then-next-blocks
returns-then-next-blocks c = sym (none_left c.args.blocks.now c.args.next c.args.number (spelling_of c.args.reference) c.if-next-blocks.true c.requires.passed)

pub returns : goal.returns
returns c =
    c.begins_before.ensures
    ∙ decides c.args.blocks.now c.args.next c.args.number c.block_at-block.result c.in-Variable.name.now c.block_at-block.ensures (c.requires.ahead c.block_at-block.result c.block_at-block.ensures) c.requires.disjoint c.requires.passed
    ∙ ap (λ r. is_self_reference (map block_view c.args.blocks.now) c.args.number (spelling_of r)) (sym c.in-Variable.is)
