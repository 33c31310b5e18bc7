use Rattle.line_diff.specs.Diffs.{body_at}
use Rattle.line_diff.proofs.DiffLemmas.{each_goes}
use Rattle.line_diff.proofs.diff.push_body.Goals as goal

pub loop-number-preserved : goal.loop-number-preserved
loop-number-preserved c =
    each_goes (body_at c.args.lines.now) _ c.loop-number.to.items c.push_at.new.to.items c.loop-number.number c.args.end c.loop-number-test.true c.loop-number.invariant c.in_ok-push_at.ensures
