use Rattle.std.proofs.Common.{◌∙◌, ◌++◌, ap, codes}
use Rattle.line_diff.specs.Diffs.{line_at, signed_line}
use Rattle.line_diff.proofs.DiffLemmas.{each_goes}
use Rattle.line_diff.proofs.diff.push_old.Goals as goal

pub loop-number-preserved : goal.loop-number-preserved
loop-number-preserved c =
    each_goes (λ k. signed_line (codes "-") (line_at c.args.lines.now.old k)) _ c.loop-number.to.items c.push_line.new.to.items c.loop-number.number c.args.end c.loop-number-test.true c.loop-number.invariant
    (c.in_ok-push_line.ensures ∙ ap (λ l. c.loop-number.to.items ++ signed_line (codes "-") l) c.old_line.ensures)
