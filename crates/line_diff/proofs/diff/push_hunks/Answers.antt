use Rattle.std.proofs.Common.{◌<◌, arith}
use Rattle.line_diff.specs.Diffs.{count, hunk_at}
use Rattle.line_diff.proofs.DiffLemmas.{each_goes}
use Rattle.line_diff.proofs.diff.push_hunks.Goals as goal

pub loop-number-preserved : goal.loop-number-preserved
loop-number-preserved c =
    let within : c.loop-number.number < count c.args.lines.now = omega (arith, c.loop-number-test.true, c.len-number-end.ensures) in
    each_goes (hunk_at c.args.lines.now) _ c.loop-number.to.items c.push_hunk_at.new.to.items c.loop-number.number (count c.args.lines.now) within c.loop-number.invariant c.in_ok-push_hunk_at.ensures
