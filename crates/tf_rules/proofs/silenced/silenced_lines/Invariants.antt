use Rattle.std.proofs.Common.{map, take}
use Rattle.tf_rules.specs.Inner.StoredViews.{stored_comment}
use Rattle.tf_rules.specs.Inner.SilencedLines.{AreSilenced}
use Rattle.tf_rules.proofs.silenced.silenced_lines.Given as goal

abbrev pub invariant-loop-comment : goal.invariant-loop-comment
invariant-loop-comment l = AreSilenced l.lines (map stored_comment (take l.comment-index l.comments))
