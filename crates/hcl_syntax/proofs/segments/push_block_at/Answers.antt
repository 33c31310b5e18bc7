use Rattle.hcl_syntax.proofs.BlockLemmas.{puts_block}
use Rattle.hcl_syntax.proofs.segments.push_block_at.Goals as goal

pub returns : goal.returns
returns c =
    let after = c.in_ok-first.ensures.after in
    puts_block c.args.tokens.now.tokens c.args.level c.args.kind c.args.to c.in_ok-first.first c.block_end-end.result c.saturating_sub.result c.args.items.now c.push_block.new.self c.push_labels.new.items
    after.is after.from_on c.block_end-end.ensures.is c.block_end-end.ensures.within after.begins c.saturating_sub.ensures c.in_ok-push_block.ensures.pushed c.in_ok-first.ensures.labels
