use Rattle.std.proofs.Common.{drop, string_bytes}
use Rattle.hcl_grammar.specs.Numbered.{number_tokens}
use Rattle.hcl_grammar.specs.declared.item.Item.TheVariants as item
use Rattle.text_outline.specs.Symbols.{block_name}
use Rattle.text_outline.proofs.ItemLemmas.{item_within}
use Rattle.text_outline.proofs.NameLemmas.{labels_end, labels_go_on}
use Rattle.text_outline.proofs.name.block_name.Goals as goal

pub returns-in_default : goal.returns-in_default
returns-in_default c =
    let ts = number_tokens c.args.accepted.now.tokens in
    labels_end ts c.args.items.now c.loop-number.number c.get.result (string_bytes c.loop-number.name) (block_name ts c.args.kind (drop c.args.from c.args.items.now)) c.get.ensures c.in_default.not-Label c.loop-number.invariant

pub label_text-requires : goal.label_text-requires
label_text-requires c = item_within c.args.accepted.now.tokens c.args.items.now c.loop-number.number (item.Label c.in-Label.label) c.requires.items c.in-Label.ensures

pub loop-number-preserved : goal.loop-number-preserved
loop-number-preserved c =
    let ts = number_tokens c.args.accepted.now.tokens in
    labels_go_on ts c.args.items.now c.loop-number.number c.in-Label.label (string_bytes c.loop-number.name) (string_bytes c.push_quoted.new.name)
    (block_name ts c.args.kind (drop c.args.from c.args.items.now)) c.label_text.result.now c.in-Label.ensures c.label_text.ensures c.in_ok-push_quoted.ensures c.loop-number.invariant
