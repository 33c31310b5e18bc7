use Rattle.std.proofs.Common.{◌∙◌, ap, sym, List}
use Rattle.std.specs.Prelude.{slice_get}
use Rattle.hcl_grammar.specs.declared.item.Item.{Item}
use Rattle.hcl_grammar.specs.declared.item.Item.TheVariants as item
use Rattle.tf_facts.proofs.BodyLemmas.{begins_within}
use Rattle.tf_names.proofs.declaration.push_item.Goals as goal

pub push_block-requires-clause-token : goal.push_block-requires-clause-token
push_block-requires-clause-token c =
    begins_within c.args.accepted.now.tokens c.args.number (item.Block c.in-Block.level c.in-Block.kind c.in-Block.end) (sym (ap (λ (is : List Item). slice_get is c.args.number) c.requires.items) ∙ c.in-Block.ensures)
