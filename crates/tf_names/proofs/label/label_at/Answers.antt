use Rattle.std.proofs.Common.{◌∙◌, ap, sym, List, ◌∷◌, ◌+◌, drop}
use Rattle.std.specs.Prelude.{slice_get}
use Rattle.hcl_grammar.specs.declared.item.Item.{Item}
use Rattle.hcl_grammar.specs.declared.item.Item.TheVariants as item
use Rattle.tf_facts.proofs.BodyLemmas.{begins_within}
use Rattle.tf_names.specs.Names.{label_stretches}
use Rattle.tf_names.proofs.DeclarationLemmas.{labels_here}
use Rattle.tf_names.proofs.label.label_at.Goals as goal

pub label_stretch-requires : goal.label_stretch-requires
label_stretch-requires c =
    begins_within c.args.accepted.now.tokens c.args.number (item.Label c.in-Label.label) (sym (ap (λ (is : List Item). slice_get is c.args.number) c.requires) ∙ c.in-Label.ensures)

pub returns-in-Label : goal.returns-in-Label
returns-in-Label c =
    labels_here c.args.accepted.now.tokens c.args.items.now c.args.number (item.Label c.in-Label.label) c.in-Label.ensures
    ∙ ap (λ s. s ∷ label_stretches c.args.accepted.now.tokens (drop (c.args.number + 1) c.args.items.now)) (sym c.label_stretch.ensures)

pub returns-in-Attribute : goal.returns-in-Attribute
returns-in-Attribute c =
    labels_here c.args.accepted.now.tokens c.args.items.now c.args.number (item.Attribute c.in-Attribute.level c.in-Attribute.name c.in-Attribute.first c.in-Attribute.end) c.in-Attribute.ensures

pub returns-in-Block : goal.returns-in-Block
returns-in-Block c =
    labels_here c.args.accepted.now.tokens c.args.items.now c.args.number (item.Block c.in-Block.level c.in-Block.kind c.in-Block.end) c.in-Block.ensures
