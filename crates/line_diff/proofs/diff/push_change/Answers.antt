use Rattle.std.proofs.Common.{codes}
use Rattle.std.proofs.lemmas.Result.{on_ok_weaker}
use Rattle.line_diff.specs.Diffs.{line_at, signed_line}
use Rattle.line_diff.proofs.DiffLemmas.{change_put}
use Rattle.line_diff.proofs.diff.push_change.Goals as goal

pub returns : goal.returns
returns c =
    on_ok_weaker c.push_new.result (change_put (λ k. signed_line (codes "-") (line_at c.args.lines.now.old k)) (λ k. signed_line (codes "+") (line_at c.args.lines.now.new k)) c.args.start _ c.end_of_change-end.result
    c.args.to.now.items c.push_old.new.to.items c.push_new.new.to.items c.end_of_change-end.ensures.end c.in_ok-push_old.ensures) c.push_new.ensures
