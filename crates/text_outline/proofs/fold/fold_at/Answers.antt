use Rattle.std.proofs.Common.{◌∙◌, ◌++◌, ◌+◌, ap, drop, flat_map, sym}
use Rattle.hcl_grammar.specs.declared.item.Item.TheVariants as item
use Rattle.text_outline.specs.Folds.{fold_of}
use Rattle.text_outline.proofs.ItemLemmas.{folds_here, item_within}
use Rattle.text_outline.proofs.fold.fold_at.Goals as goal

pub fold_from-requires-clause-first : goal.fold_from-requires-clause-first
fold_from-requires-clause-first c =
    let i = c.in-Attribute in
    (item_within c.args.accepted.now.tokens c.args.items.now c.args.number (item.Attribute i.level i.name i.first i.end) c.requires.items i.ensures).0

pub fold_from-requires-clause-end : goal.fold_from-requires-clause-end
fold_from-requires-clause-end c =
    let i = c.in-Attribute in
    (item_within c.args.accepted.now.tokens c.args.items.now c.args.number (item.Attribute i.level i.name i.first i.end) c.requires.items i.ensures).1

pub fold_from-requires-in-Block-clause-first : goal.fold_from-requires-in-Block-clause-first
fold_from-requires-in-Block-clause-first c =
    let i = c.in-Block in
    (item_within c.args.accepted.now.tokens c.args.items.now c.args.number (item.Block i.level i.kind i.end) c.requires.items i.ensures).0

pub fold_from-requires-in-Block-clause-end : goal.fold_from-requires-in-Block-clause-end
fold_from-requires-in-Block-clause-end c =
    let i = c.in-Block in
    (item_within c.args.accepted.now.tokens c.args.items.now c.args.number (item.Block i.level i.kind i.end) c.requires.items i.ensures).1

pub returns-in-Attribute : goal.returns-in-Attribute
returns-in-Attribute c =
    let i = c.in-Attribute in
    folds_here c.args.items.now c.args.number (item.Attribute i.level i.name i.first i.end) i.ensures c.args.accepted.now
    ∙ ap (λ l. l ++ flat_map (fold_of c.args.accepted.now) (drop (c.args.number + 1) c.args.items.now)) (sym c.fold_from.ensures)

pub returns-in-Block : goal.returns-in-Block
returns-in-Block c =
    let i = c.in-Block in
    folds_here c.args.items.now c.args.number (item.Block i.level i.kind i.end) i.ensures c.args.accepted.now
    ∙ ap (λ l. l ++ flat_map (fold_of c.args.accepted.now) (drop (c.args.number + 1) c.args.items.now)) (sym c.fold_from-in-Block.ensures)

pub returns-in-Label : goal.returns-in-Label
returns-in-Label c = folds_here c.args.items.now c.args.number (item.Label c.in-Label.field-0) c.in-Label.ensures c.args.accepted.now
