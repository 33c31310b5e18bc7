use Rattle.std.proofs.Common.{◌≡◌, ◌≤◌, ◌++◌, ◌-◌, drop, length, map}
use Rattle.std.specs.Str.{IsCharBoundary}
use Rattle.line_diff.specs.Diffs.{lines_of}
use Rattle.text_places.specs.Edits.{edit_of, edits_from, line_edits}
use Rattle.text_places.specs.Inner.Cuts.{change}
use Rattle.text_places.proofs.edits.edits_between.Given as goal

abbrev pub invariant-loop-at : goal.invariant-loop-at
invariant-loop-at l = record {
  old : l.at.old ≤ length l.old;
  new : l.start.new ≤ l.at.new;
  start : IsCharBoundary l.new l.start.new;
  at : IsCharBoundary l.new l.at.new;
  edits : map edit_of l.edits.items ++ edits_from (change l.start.old l.at.old l.new l.start.new l.at.new) (lines_of (drop l.at.old l.old)) (lines_of (drop l.at.new l.new)) ≡ line_edits l.old l.new;
}

abbrev pub decreases-loop-at : goal.decreases-loop-at
decreases-loop-at l = length l.old - l.at.old
