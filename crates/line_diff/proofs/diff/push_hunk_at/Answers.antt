use Rattle.std.proofs.Common.{◌∙◌, sym}
use Rattle.std.proofs.lemmas.Result.{on_ok_weaker}
use Rattle.line_diff.proofs.DiffLemmas.{hunk_put}
use Rattle.line_diff.proofs.diff.push_hunk_at.Goals as goal

pub returns : goal.returns
returns c =
    on_ok_weaker c.push_body.result (hunk_put c.args.lines.now c.args.number c.end_of_hunk-end.result c.args.to.now.items c.push_head.new.to.items c.push_body.new.to.items
    (sym c.begins_hunk.ensures ∙ c.if-not-begins_hunk.false) c.end_of_hunk-end.ensures.end c.in_ok-push_head.ensures) c.push_body.ensures
