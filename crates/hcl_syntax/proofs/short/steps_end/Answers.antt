use Rattle.std.proofs.Common.{◌≡◌, ◌+◌, ◌∙◌, subst, arith, drop, sym}
use Rattle.hcl_grammar.specs.Classes.{lookaheads_from}
use Rattle.hcl_syntax.specs.Inner.ShortOperands.{AreSteps}
use Rattle.hcl_syntax.proofs.ShortLemmas.{no_steps, one_step}
use Rattle.hcl_syntax.proofs.short.steps_end.Goals as goal

pub returns-then-not-is_dot-clause-steps : goal.returns-then-not-is_dot-clause-steps
returns-then-not-is_dot-clause-steps c = c.loop-number.invariant.steps _ (no_steps _)

pub returns-then-not-is_identifier-clause-steps : goal.returns-then-not-is_identifier-clause-steps
returns-then-not-is_identifier-clause-steps c = c.loop-number.invariant.steps _ (no_steps _)

pub loop-number-preserved : goal.loop-number-preserved
loop-number-preserved c =
    let tokens = c.args.tokens.now.tokens in
    let number = c.loop-number.number in
    let after : number + 1 + 1 ≡ number + 2 = omega arith in
    record {
      within = omega (arith, c.loop-number-test.true);
      from_on = omega (arith, c.loop-number.invariant.from_on);
      steps = λ left more. c.loop-number.invariant.steps left
          (one_step _ _ _ _ _ left c.lookahead_at-dot.ensures c.lookahead_at-name.ensures (subst (λ n. AreSteps (lookaheads_from n (drop n tokens)) left) (sym after) more) (sym c.is_dot.ensures ∙ c.if-not-is_dot.false) (sym c.is_identifier.ensures ∙ c.if-not-is_identifier.false));
    }

pub returns-clause-steps : goal.returns-clause-steps
returns-clause-steps c = c.loop-number.invariant.steps _ (no_steps _)
