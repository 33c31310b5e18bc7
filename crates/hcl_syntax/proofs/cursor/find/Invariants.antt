use Rattle.std.proofs.Common.{length, drop, ◌-◌, ◌≡◌, ◌≤◌}
use Rattle.hcl_grammar.specs.Classes.{lookaheads_from}
use Rattle.hcl_syntax.specs.Inner.Cursors.{past_newlines}
use Rattle.hcl_syntax.proofs.cursor.find.Given as goal

abbrev pub invariant-loop-number : goal.invariant-loop-number
invariant-loop-number l = record {
  within : l.number ≤ length l.tokens.tokens;
  left : past_newlines l.newlines (lookaheads_from l.number (drop l.number l.tokens.tokens)) ≡ past_newlines l.newlines (lookaheads_from l.from (drop l.from l.tokens.tokens));
}

abbrev pub decreases-loop-number : goal.decreases-loop-number
decreases-loop-number l = length l.tokens.tokens - l.number
