use Rattle.std.proofs.Common.{◌≡◌, ◌∙◌, ◌+◌, ◌≤◌, ℕ, ap, arith, drop, refl, subst, sym}
use Rattle.std.proofs.lemmas.Option.{slice_get_within}
use Rattle.hcl_tokens.specs.Balanced.{max_open}
use Rattle.hcl_grammar.specs.Items.{deepen}
use Rattle.hcl_layout.specs.Inner.Depths.{BalancedFrom}
use Rattle.hcl_layout.specs.Inner.Survey.{survey_from, step_of, survey_of}
use Rattle.hcl_layout.proofs.NotedKindLemmas.{pointed, unstopped_goes_on, unstopped_unmarked}
use Rattle.hcl_layout.proofs.SeenLemmas.{seen_noted}
use Rattle.hcl_layout.proofs.SurveyLemmas.{going_on, low_at, rest_at, step_at, token_at}
use Rattle.hcl_layout.proofs.line.pass_steps.Goals as goal

pub loop-number-init : goal.loop-number-init
loop-number-init c = record {
  passes = record {
    order = omega arith;
    within = c.requires.within;
    balanced = c.requires.balanced;
    low = c.requires.fits;
    same = λ seen first le. refl;
  };
}

pub returns-then-step-eq-SPECIAL-clause-more : goal.returns-then-step-eq-SPECIAL-clause-more
returns-then-step-eq-SPECIAL-clause-more c = λ t e. pointed t.kind c.step_of-step.result (c.step_of-step.ensures ∙ ap step_of (c.kind.ensures t e)) c.if-step-eq-SPECIAL.true

pub depth_after-depth-requires-clause-stays : goal.depth_after-depth-requires-clause-stays
depth_after-depth-requires-clause-stays c =
    let ts = c.args.tokens.now.tokens in
    let i : ℕ = c.loop-number.number in
    let found = token_at ts i (omega arith) in
    (step_at ts i c.loop-number.depth c.step_of-step.result found.0 c.kind.result found.1 (c.kind.ensures found.0 found.1) c.step_of-step.ensures c.if-step-eq-SPECIAL.false c.loop-number.invariant.passes.balanced).stays

pub loop-number-preserved : goal.loop-number-preserved
loop-number-preserved c =
    let ts = c.args.tokens.now.tokens in
    let i : ℕ = c.loop-number.number in
    let d : ℕ = c.loop-number.depth in
    let p = c.loop-number.invariant.passes in
    let found = token_at ts i (omega arith) in
    let t = found.0 in
    let step = step_at ts i d c.step_of-step.result t c.kind.result found.1 (c.kind.ensures t found.1) c.step_of-step.ensures c.if-step-eq-SPECIAL.false p.balanced in
    let deep : deepen d t.kind ≡ c.depth_after-depth.result = omega (arith, c.depth_after-depth.ensures, step.deepens) in
    record {
      passes = record {
        order = omega (arith, p.order);
        within = omega arith;
        balanced = subst (λ k. BalancedFrom k (drop (i + 1) ts)) deep (rest_at ts i d t found.1 p.balanced);
        low = subst (λ k. k ≤ max_open) deep (low_at ts i d t found.1 p.balanced p.low);
        same = λ seen first le.
            going_on ts i t (survey_of seen d first i) (survey_of seen c.depth_after-depth.result first (i + 1)) (survey_from (survey_of seen c.args.before first c.args.from) (drop c.args.from ts)) found.1
            (ap (λ k. survey_of seen k first (i + 1)) (sym deep) ∙ seen_noted seen t d first i (omega (arith, le, p.order)) (unstopped_unmarked t.kind step.on))
            (unstopped_goes_on t step.on) (p.same seen first le);
      };
    }

pub returns-clause-more : goal.returns-clause-more
returns-clause-more c = λ t e. absurd (omega (arith, slice_get_within c.args.tokens.now.tokens c.loop-number.number t e))
