use Rattle.std.proofs.Common.{◌≡◌, ◌≤◌, ◌++◌, drop, map}
use Rattle.line_diff.specs.Diffs.{lines_of}
use Rattle.line_diff.proofs.SplitLemmas.{onto, since}
use Rattle.line_diff.proofs.lines.lines_of.Given as goal

abbrev pub invariant-loop-at : goal.invariant-loop-at
invariant-loop-at l = (l.start ≤ l.at) × (map (λ line. line.now) l.lines.items ++ onto (since l.text l.start l.at) (lines_of (drop l.at l.text)) ≡ lines_of l.text)
