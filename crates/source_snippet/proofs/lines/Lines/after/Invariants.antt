use Rattle.std.proofs.Common.{◌-◌, ◌≡◌, ◌≤◌}
use denote.Text.{Utf8}
use denote.Shadow.{shadow}
use Rattle.source_snippet.specs.Snippets.{after_lines}
use Rattle.source_snippet.proofs.lines.Lines.after.Given as goal

-- the text after the passed lines
abbrev pub invariant-loop-passed : goal.invariant-loop-passed
invariant-loop-passed l = shadow (Utf8 l.rest) × (l.rest ≡ after_lines l.passed l.text) × (l.passed ≤ l.count)

abbrev pub decreases-loop-passed : goal.decreases-loop-passed
decreases-loop-passed l = l.count - l.passed
