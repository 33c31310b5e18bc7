use Rattle.std.proofs.Common.{subst}
use Rattle.lint_forms.proofs.AddsLemmas.{Added, added_then}
use Rattle.json.specs.Tree.{json_tokens}
use Rattle.editor_messages.specs.Names.{range_location}
use Rattle.editor_messages.proofs.NamedLemmas.{one_more_seen}
use Rattle.editor_messages.proofs.location.write_ranges.Goals as goal

pub loop-range-preserved : goal.loop-range-preserved
loop-range-preserved c =
    let w0 = c.args.writer.now in
    let w1 = c.loop-range.writer in
    let w2 = c.write_location.new.writer in
    subst (Added w0 w2) (one_more_seen (json_tokens) (range_location c.args.uri.now) c.args.ranges.now c.loop-range.range-index _ c.loop-range-test.true)
    (added_then w0 w1 w2 _ _ c.loop-range.invariant c.in_ok-write_location.ensures)
