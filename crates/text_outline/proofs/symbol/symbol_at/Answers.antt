use Rattle.std.proofs.Common.{◌∙◌, ◌+◌, ◌∷◌, ap, arith, drop, string_bytes, sym}
use Rattle.hcl_grammar.specs.Labels.{text_of}
use Rattle.hcl_grammar.specs.Numbered.{number_tokens}
use Rattle.hcl_grammar.specs.declared.item.Item.TheVariants as item
use Rattle.text_outline.specs.Symbols.{block_name, symbols_in}
use Rattle.text_outline.specs.declared.symbol.SymbolKind.TheVariants.{Attribute, Block}
use Rattle.text_outline.proofs.ItemLemmas.{item_within, symbol_found, symbols_here}
use Rattle.text_outline.proofs.symbol.symbol_at.Goals as goal

pub word_at-requires : goal.word_at-requires
word_at-requires c =
    let i = c.in-Attribute in
    (item_within c.args.accepted.now.tokens c.args.items.now c.args.number (item.Attribute i.level i.name i.first i.end) c.requires.items i.ensures).0

pub range_between-requires-clause-first : goal.range_between-requires-clause-first
range_between-requires-clause-first c =
    let i = c.in-Attribute in
    (item_within c.args.accepted.now.tokens c.args.items.now c.args.number (item.Attribute i.level i.name i.first i.end) c.requires.items i.ensures).0

pub range_between-requires-clause-last : goal.range_between-requires-clause-last
range_between-requires-clause-last c =
    let i = c.in-Attribute in
    let w = item_within c.args.accepted.now.tokens c.args.items.now c.args.number (item.Attribute i.level i.name i.first i.end) c.requires.items i.ensures in
    omega (arith, w.0, w.1, c.saturating_sub.ensures)

pub range_between-requires-in-Attribute-clause-first : goal.range_between-requires-in-Attribute-clause-first
range_between-requires-in-Attribute-clause-first c =
    let i = c.in-Attribute in
    (item_within c.args.accepted.now.tokens c.args.items.now c.args.number (item.Attribute i.level i.name i.first i.end) c.requires.items i.ensures).0

pub range_between-requires-in-Attribute-clause-last : goal.range_between-requires-in-Attribute-clause-last
range_between-requires-in-Attribute-clause-last c =
    let i = c.in-Attribute in
    (item_within c.args.accepted.now.tokens c.args.items.now c.args.number (item.Attribute i.level i.name i.first i.end) c.requires.items i.ensures).0

pub block_name-requires-clause-kind : goal.block_name-requires-clause-kind
block_name-requires-clause-kind c =
    let i = c.in-Block in
    (item_within c.args.accepted.now.tokens c.args.items.now c.args.number (item.Block i.level i.kind i.end) c.requires.items i.ensures).0

pub range_between-requires-in-Block-clause-first : goal.range_between-requires-in-Block-clause-first
range_between-requires-in-Block-clause-first c =
    let i = c.in-Block in
    (item_within c.args.accepted.now.tokens c.args.items.now c.args.number (item.Block i.level i.kind i.end) c.requires.items i.ensures).0

pub range_between-requires-in-Block-clause-last : goal.range_between-requires-in-Block-clause-last
range_between-requires-in-Block-clause-last c =
    let i = c.in-Block in
    let w = item_within c.args.accepted.now.tokens c.args.items.now c.args.number (item.Block i.level i.kind i.end) c.requires.items i.ensures in
    omega (arith, w.0, w.1, c.saturating_sub-in-Block.ensures)

pub range_between-requires-in-Block-2-clause-first : goal.range_between-requires-in-Block-2-clause-first
range_between-requires-in-Block-2-clause-first c =
    let i = c.in-Block in
    (item_within c.args.accepted.now.tokens c.args.items.now c.args.number (item.Block i.level i.kind i.end) c.requires.items i.ensures).0

pub range_between-requires-in-Block-2-clause-last : goal.range_between-requires-in-Block-2-clause-last
range_between-requires-in-Block-2-clause-last c =
    let i = c.in-Block in
    (item_within c.args.accepted.now.tokens c.args.items.now c.args.number (item.Block i.level i.kind i.end) c.requires.items i.ensures).0

pub returns-in_ok-from_str-in-Attribute : goal.returns-in_ok-from_str-in-Attribute
returns-in_ok-from_str-in-Attribute c =
    let i = c.in-Attribute in
    let units = c.args.places.now.units in
    let s = c.args.accepted.now in
    symbols_here c.args.items.now c.args.number (item.Attribute i.level i.name i.first i.end) i.ensures units s
    ∙ ap (λ found. found ∷ symbols_in units s (drop (c.args.number + 1) c.args.items.now))
    (sym (symbol_found units s (text_of (number_tokens s.tokens) i.name) Attribute i.level i.name i.end (string_bytes c.in_ok-from_str-in-Attribute.field-0) c.saturating_sub.result c.range_between.result c.range_between-in-Attribute.result
    (c.in_ok-from_str-in-Attribute.ensures.ok ∙ c.word_at.ensures) c.saturating_sub.ensures c.range_between.ensures c.range_between-in-Attribute.ensures))

pub returns-in_ok-block_name-in-Block : goal.returns-in_ok-block_name-in-Block
returns-in_ok-block_name-in-Block c =
    let i = c.in-Block in
    let units = c.args.places.now.units in
    let s = c.args.accepted.now in
    let rest = drop (c.args.number + 1) c.args.items.now in
    symbols_here c.args.items.now c.args.number (item.Block i.level i.kind i.end) i.ensures units s
    ∙ ap (λ found. found ∷ symbols_in units s rest)
    (sym (symbol_found units s (block_name (number_tokens s.tokens) i.kind rest) Block i.level i.kind i.end (string_bytes c.in_ok-block_name-in-Block.field-0) c.saturating_sub-in-Block.result c.range_between-in-Block.result c.range_between-in-Block-2.result
    c.in_ok-block_name-in-Block.ensures c.saturating_sub-in-Block.ensures c.range_between-in-Block.ensures c.range_between-in-Block-2.ensures))

pub returns-in-Label : goal.returns-in-Label
returns-in-Label c =
    symbols_here c.args.items.now c.args.number (item.Label c.in-Label.field-0) c.in-Label.ensures c.args.places.now.units c.args.accepted.now
