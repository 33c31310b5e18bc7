use Rattle.std.proofs.Common.{◌≡◌, ◌∙◌, ap, sym, refl, List, drop, length, arith, eqb-true}
use Rattle.std.specs.Prelude.{codes, find}
use Rattle.std.specs.Option.{option_map}
use Rattle.std.specs.Str.{bytes_eq}
use Rattle.hcl_grammar.specs.Numbered.{number_tokens}
use Rattle.hcl_grammar.specs.declared.item.Item.{Item}
use Rattle.tf_facts.specs.Declarations.{attributes_in, labels_in}
use Rattle.tf_facts.specs.Inner.FoundViews.{declarer_of}
use Rattle.tf_facts.specs.Inner.Values.{value_of_attribute}
use Rattle.tf_facts.specs.declared.value.Body.{Body}
use Rattle.tf_facts.proofs.DeclarationLemmas.{declares_one, texts_are, values_within}
use Rattle.tf_facts.proofs.declaration.declared_by.Goals as goal

pub source_in-source-requires : goal.source_in-source-requires
source_in-source-requires c =
    values_within c.args.accepted.now.tokens c.args.from (codes "source") c.body-body.result.source
    (ap (λ (b : Body). b.source) c.body-body.ensures
    ∙ ap (λ (is : List Item). option_map value_of_attribute (find (λ a. bytes_eq a.name (codes "source")) (attributes_in (number_tokens c.args.accepted.now.tokens) (drop c.args.from is)))) c.requires.items)

pub returns : goal.returns
returns c =
    let texts = labels_in (number_tokens c.args.accepted.now.tokens) (drop c.args.from c.args.items.now) in
    let fits = sym (c.are_as_many.ensures texts c.names-names.ensures) ∙ c.if-not-are_as_many.false in
    let same : length texts ≡ c.in-Some.declarer.labels = eqb-true _ _ fits in
    declares_one (number_tokens c.args.accepted.now.tokens) c.args.token texts (attributes_in (number_tokens c.args.accepted.now.tokens) (drop c.args.from c.args.items.now)) c.word_at.result.now c.word_at.ensures
    (declarer_of c.in-Some.declarer) (ap (option_map declarer_of) (sym c.in-Some.is) ∙ c.declarer.ensures.is) fits
    (record {
      kind = c.in-Some.declarer.kind;
      names = c.names-names.result;
      at = c.args.token;
      is_described = c.body-body.result.is_described;
      is_typed = c.body-body.result.is_typed;
      is_versioned = c.body-body.result.is_versioned;
      source = c.source_in-source.result;
    }) refl (texts_are c.names-names.result texts c.names-names.ensures (omega (arith, same, c.in-Some.ensures.few))) refl
    (ap (λ (b : Body). b.is_described) c.body-body.ensures) (ap (λ (b : Body). b.is_typed) c.body-body.ensures) (ap (λ (b : Body). b.is_versioned) c.body-body.ensures)
    (c.source_in-source.ensures (find (λ a. bytes_eq a.name (codes "source")) (attributes_in (number_tokens c.args.accepted.now.tokens) (drop c.args.from c.args.items.now))) (sym (ap (λ (b : Body). b.source) c.body-body.ensures)))
