use Rattle.std.proofs.Common.{◌≡◌, ◌∙◌, ℕ, ap, subst, eq-eqb}
use Rattle.std.specs.Prelude.{Some, slice_get}
use Rattle.std.specs.Bool.{then_some}
use Rattle.std.proofs.lemmas.Bool.{ne_eqb}
use Rattle.hcl_grammar.specs.Items.{outline}
use Rattle.hcl_grammar.specs.Numbered.{number_tokens}
use Rattle.hcl_grammar.specs.declared.item.Item.{Item}
use Rattle.hcl_grammar.specs.declared.item.Item.TheVariants as item
use Rattle.tf_facts.specs.declared.value.Value.{Value}
use Rattle.tf_facts.proofs.BodyLemmas.{begins_within, says, says_nothing}
use Rattle.tf_facts.proofs.block.body_of_item.Goals as goal

abbrev value : ℕ → ℕ → Value
value first end = record { first = first; end = end }

pub word_at-word-requires : goal.word_at-word-requires
word_at-word-requires c =
    begins_within c.args.accepted.now.tokens c.requires.0 (item.Attribute c.in-Attribute.level c.in-Attribute.name c.in-Attribute.first c.in-Attribute.end)
    (subst (λ (i : Item). slice_get (outline c.args.accepted.now.tokens) c.requires.0 ≡ Some i) c.in-Attribute.is c.requires.1)

pub returns-then-level-ne1 : goal.returns-then-level-ne1
returns-then-level-ne1 c =
    c.no_body-then-level-ne1.ensures
    ∙ says_nothing (number_tokens c.args.accepted.now.tokens) c.in-Attribute.level c.in-Attribute.name c.in-Attribute.first c.in-Attribute.end c.args.item c.in-Attribute.is (ne_eqb c.in-Attribute.level 1 c.if-level-ne1.true)

pub returns : goal.returns
returns c =
    says (number_tokens c.args.accepted.now.tokens) c.in-Attribute.level c.in-Attribute.name c.in-Attribute.first c.in-Attribute.end c.args.item c.in-Attribute.is (eq-eqb c.in-Attribute.level 1 c.if-level-ne1.false)
    c.word_at-word.result.now c.word_at-word.ensures (record { is_described = c.eq.result; is_typed = c.eq-2.result; is_versioned = c.eq-3.result; source = c.then_some.result }) c.eq.ensures c.eq-2.ensures c.eq-3.ensures
    (c.then_some.ensures ∙ ap (λ b. then_some b (value c.in-Attribute.first c.in-Attribute.end)) c.eq-4.ensures)
