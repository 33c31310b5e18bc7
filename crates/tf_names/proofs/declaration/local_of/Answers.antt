use Rattle.std.proofs.Common.{◌≡◌, subst}
use Rattle.std.specs.Prelude.{Some, slice_get}
use Rattle.hcl_grammar.specs.Items.{outline}
use Rattle.hcl_grammar.specs.declared.item.Item.{Item}
use Rattle.hcl_grammar.specs.declared.item.Item.TheVariants as item
use Rattle.tf_facts.proofs.BodyLemmas.{begins_within}
use Rattle.tf_names.proofs.declaration.local_of.Goals as goal

pub word_stretch-word-requires : goal.word_stretch-word-requires
word_stretch-word-requires c =
    begins_within c.args.accepted.now.tokens c.requires.0 (item.Attribute c.in-Attribute.level c.in-Attribute.name c.in-Attribute.first c.in-Attribute.end)
    (subst (λ (i : Item). slice_get (outline c.args.accepted.now.tokens) c.requires.0 ≡ Some i) c.in-Attribute.is c.requires.1)
