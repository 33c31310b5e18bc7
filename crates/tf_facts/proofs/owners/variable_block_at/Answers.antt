use Rattle.std.proofs.Common.{◌∙◌, ap, sym, refl, List, drop, ◌+◌, arith}
use Rattle.std.specs.Prelude.{codes, slice_get}
use Rattle.std.specs.Str.{bytes_eq}
use Rattle.hcl_grammar.specs.Numbered.{number_tokens}
use Rattle.hcl_grammar.specs.declared.item.Item.{Item}
use Rattle.hcl_grammar.specs.declared.item.Item.TheVariants as item
use Rattle.tf_facts.specs.Declarations.{labels_in}
use Rattle.tf_facts.proofs.BodyLemmas.{begins_within}
use Rattle.tf_facts.proofs.OwnerLemmas.{closed_at, differs, is_same, owner_one, owner_other, owner_unfit}
use Rattle.tf_facts.proofs.owners.variable_block_at.Goals as goal

pub word_at-requires : goal.word_at-requires
word_at-requires c =
    begins_within c.args.accepted.now.tokens c.args.number (item.Block c.in-Block.level c.in-Block.kind c.in-Block.end) (sym (ap (λ (is : List Item). slice_get is c.args.number) c.requires.items) ∙ c.in-Block.ensures)

pub returns-then-ne : goal.returns-then-ne
returns-then-ne c = λ i e.
    owner_other (number_tokens c.args.accepted.now.tokens) c.args.items.now c.args.number c.in-Block.level c.in-Block.kind c.in-Block.end c.in-Block.ensures i e (closed_at c.in-Block.level (omega (arith, c.if-level-gt0.false)))
    (ap (λ w. bytes_eq w (codes "variable")) (sym c.word_at.ensures) ∙ differs (bytes_eq c.word_at.result.now (codes "variable")) c.ne.result c.ne.ensures c.if-ne.true)

pub returns-in_default-only : goal.returns-in_default-only
returns-in_default-only c = λ i e.
    owner_unfit (number_tokens c.args.accepted.now.tokens) c.args.items.now c.args.number c.in-Block.level c.in-Block.kind c.in-Block.end c.in-Block.ensures i e (closed_at c.in-Block.level (omega (arith, c.if-level-gt0.false)))
    (ap (λ w. bytes_eq w (codes "variable")) (sym c.word_at.ensures) ∙ is_same (bytes_eq c.word_at.result.now (codes "variable")) c.ne.result c.ne.ensures c.if-ne.false)
    (c.in_default-only.ensures (labels_in (number_tokens c.args.accepted.now.tokens) (drop (c.args.number + 1) c.args.items.now)) c.names.ensures)

pub returns : goal.returns
returns c = λ i e.
    owner_one (number_tokens c.args.accepted.now.tokens) c.args.items.now c.args.number c.in-Block.level c.in-Block.kind c.in-Block.end c.in-Block.ensures i e (closed_at c.in-Block.level (omega (arith, c.if-level-gt0.false)))
    (ap (λ w. bytes_eq w (codes "variable")) (sym c.word_at.ensures) ∙ is_same (bytes_eq c.word_at.result.now (codes "variable")) c.ne.result c.ne.ensures c.if-ne.false)
    c.in-Some.name.now (c.in-Some.ensures (labels_in (number_tokens c.args.accepted.now.tokens) (drop (c.args.number + 1) c.args.items.now)) c.names.ensures) (record { name = c.in-Some.name; first = c.in-Block.kind; end = c.in-Block.end }) refl refl refl
