use Rattle.std.proofs.Common.{◌≡◌, ◌≤◌, ◌-◌, false, drop, length}
use Rattle.hcl_layout.specs.Inner.Laid.{AreRight, IsAt, Stops, gaps_after, left_after, left_on}
use Rattle.hcl_layout.specs.Print.{print}
use Rattle.hcl_layout.proofs.print.stands_in_place.Given as goal

abbrev pub invariant-loop-line : goal.invariant-loop-line
invariant-loop-line l = record {
  lines : IsAt l.tokens.tokens l.lines;
  step : l.lines.wrong ≡ false → AreRight l.tokens.tokens l.lines → left_after l.tokens.tokens l.lines ≡ drop l.at l.source → print l.tokens.tokens ≡ l.source;
  inside : l.at ≤ length l.source;
}

abbrev pub decreases-loop-line : goal.decreases-loop-line
decreases-loop-line l = length l.tokens.tokens - l.lines.next

abbrev pub invariant-loop-number : goal.invariant-loop-number
invariant-loop-number l = record {
  stops : Stops l.line l.number l.stop;
  step : AreRight l.tokens.tokens l.lines → left_on l.tokens.tokens l.line (gaps_after l.tokens.tokens l.lines) l.number ≡ drop l.at l.source → print l.tokens.tokens ≡ l.source;
  order : l.line.first ≤ l.number;
  inside : l.at ≤ length l.source;
}
