use Rattle.std.proofs.Common.{◌≡◌, ◌<◌, ◌+◌}
use Rattle.hcl_layout.specs.Inner.Laid.{width_on}
use Rattle.hcl_layout.proofs.lines.LaidLine.width.Given as goal

abbrev pub invariant-loop-k : goal.invariant-loop-k
invariant-loop-k l = record {
  whole : l.sum + width_on l.tokens.tokens l.self l.k l.number ≡ l.fn.sum + width_on l.tokens.tokens l.self l.from l.number;
  order : l.from < l.k;
}
