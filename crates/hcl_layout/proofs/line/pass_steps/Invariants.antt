use Rattle.std.proofs.Common.{◌-◌}
use Rattle.hcl_layout.specs.Inner.Survey.{PassesSteps}
use Rattle.hcl_layout.proofs.line.pass_steps.Given as goal

abbrev pub invariant-loop-number : goal.invariant-loop-number
invariant-loop-number l = record {
  passes : PassesSteps l.tokens.tokens l.from l.before l.number l.depth;
}

abbrev pub decreases-loop-number : goal.decreases-loop-number
decreases-loop-number l = l.count - l.number
