use Rattle.std.proofs.Common.{drop, length, List, ◌-◌, ◌≤◌}
use Rattle.hcl_grammar.specs.Classes.{lookaheads_from}
use Rattle.hcl_grammar.specs.declared.class.Lookahead.{Lookahead}
use Rattle.hcl_syntax.specs.Inner.ShortOperands.{AreSteps}
use Rattle.hcl_syntax.proofs.short.steps_end.Given as goal

abbrev pub invariant-loop-number : goal.invariant-loop-number
invariant-loop-number l = record {
  within : l.number ≤ length l.tokens.tokens;
  from_on : l.from ≤ l.number;
  steps : (left : List Lookahead) → AreSteps (lookaheads_from l.number (drop l.number l.tokens.tokens)) left → AreSteps (lookaheads_from l.from (drop l.from l.tokens.tokens)) left;
}

abbrev pub decreases-loop-number : goal.decreases-loop-number
decreases-loop-number l = length l.tokens.tokens - l.number
