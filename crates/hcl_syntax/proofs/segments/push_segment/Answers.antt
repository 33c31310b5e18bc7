use Rattle.std.proofs.Common.{◌∙◌, sym}
use Rattle.std.proofs.lemmas.Result.{IfOk-weaker}
use Rattle.hcl_syntax.specs.Inner.Bodies.{PushesBlock, PushesSegment}
use Rattle.hcl_syntax.proofs.ItemSegmentLemmas.{puts_alone, puts_labelled}
use Rattle.hcl_syntax.proofs.segments.push_segment.Goals as goal

pub returns-in_default-first_word : goal.returns-in_default-first_word
returns-in_default-first_word c =
    let ts = c.args.tokens.now.tokens in
    let old = c.args.items.now in
    let new = c.push_block_at.new.items in
    IfOk-weaker c.push_block_at.result (PushesBlock ts c.args.level c.in-Some.name.number c.args.to old new) (PushesSegment ts c.args.level c.args.from c.args.to old new)
    (λ b h. puts_alone ts c.args.level c.args.from c.args.to old new c.in-Some.name b c.in-Some.ensures c.in_default-first_word.ensures h) c.push_block_at.ensures

pub returns-then-not-is_assign : goal.returns-then-not-is_assign
returns-then-not-is_assign c =
    let ts = c.args.tokens.now.tokens in
    let old = c.args.items.now in
    let new = c.push_block_at-then-not-is_assign.new.items in
    IfOk-weaker c.push_block_at-then-not-is_assign.result (PushesBlock ts c.args.level c.in-Some.name.number c.args.to old new) (PushesSegment ts c.args.level c.args.from c.args.to old new)
    (λ b h. puts_labelled ts c.args.level c.args.from c.args.to old new c.in-Some.name c.in-Some-first_word.second b c.in-Some.ensures c.in-Some-first_word.ensures (sym c.is_assign.ensures ∙ c.if-not-is_assign.true) h)
    c.push_block_at-then-not-is_assign.ensures
