use Rattle.std.proofs.Common.{◌≡◌, ◌∙◌, ◌+◌, ◌≤◌, ℕ, ap, arith, drop, subst, sym}
use Rattle.hcl_tokens.specs.Balanced.{max_open}
use Rattle.hcl_grammar.specs.Items.{deepen}
use Rattle.hcl_layout.specs.Inner.Depths.{BalancedFrom}
use Rattle.hcl_layout.specs.Inner.Survey.{Survey, survey_start, survey_step, survey_of, survey_rest}
use Rattle.hcl_layout.proofs.NotedKindLemmas.{stopped_level}
use Rattle.hcl_layout.proofs.SeenLemmas.{line_read, seen_end}
use Rattle.hcl_layout.proofs.SurveyLemmas.{going_more, going_on, going_out, low_at, rest_at, surveyed_end, surveyed_going, token_at}
use Rattle.hcl_layout.proofs.line.line_at.Goals as goal

pub returns-then-ends-clause-line : goal.returns-then-ends-clause-line
returns-then-ends-clause-line c =
    let ts = c.args.tokens.now.tokens in
    let at : ℕ = c.args.first in
    let rest = drop (at + 1) ts in
    let found = token_at ts at c.requires.within in
    let t = found.0 in
    let s : Survey = survey_of c.read_first-depth.result.0 c.read_first-depth.result.1 at (at + 1) in
    let seen : s ≡ survey_start c.args.before t = c.read_first-depth.ensures.seen t found.1 in
    line_read ts at c.args.before t c.line.result s found.1 c.len-count.ensures.bounded.tokens c.requires.balanced c.requires.fits c.line.ensures.facts
    (surveyed_end rest t s (survey_rest (survey_start c.args.before t) t rest) (sym (c.read_first-depth.ensures.end t found.1) ∙ c.if-ends.true) (ap (λ x. survey_rest x t rest) (sym seen)))

pub loop-number-init : goal.loop-number-init
loop-number-init c =
    let ts = c.args.tokens.now.tokens in
    let at : ℕ = c.args.first in
    let d : ℕ = c.args.before in
    let rest = drop (at + 1) ts in
    let found = token_at ts at c.requires.within in
    let s : Survey = survey_of c.read_first-depth.result.0 c.read_first-depth.result.1 at (at + 1) in
    let depth : c.read_first-depth.result.1 ≡ deepen d found.0.kind = ap (λ (x : Survey). x.depth) (c.read_first-depth.ensures.seen found.0 found.1) in
    let p = c.pass_steps-number.ensures.passes in
    record {
      same = λ u e. ap (λ x. survey_rest x u rest) (sym (c.read_first-depth.ensures.seen u e)) ∙ surveyed_going rest s u (sym (c.read_first-depth.ensures.end u e) ∙ c.if-ends.false) ∙ p.same c.read_first-depth.result.0 at (omega arith);
      more = c.pass_steps-number.ensures.more;
      balanced = p.balanced;
      low = p.low;
      order = omega (arith, p.order);
      within = p.within;
    }

pub pass_steps-number-requires-clause-balanced : goal.pass_steps-number-requires-clause-balanced
pass_steps-number-requires-clause-balanced c =
    let ts = c.args.tokens.now.tokens in
    let found = token_at ts c.args.first c.requires.within in
    let depth : c.read_first-depth.result.1 ≡ deepen c.args.before found.0.kind = ap (λ (x : Survey). x.depth) (c.read_first-depth.ensures.seen found.0 found.1) in
    subst (λ k. BalancedFrom k (drop (c.args.first + 1) ts)) (sym depth) (rest_at ts c.args.first c.args.before found.0 found.1 c.requires.balanced)

pub pass_steps-number-requires-clause-fits : goal.pass_steps-number-requires-clause-fits
pass_steps-number-requires-clause-fits c =
    let ts = c.args.tokens.now.tokens in
    let found = token_at ts c.args.first c.requires.within in
    let depth : c.read_first-depth.result.1 ≡ deepen c.args.before found.0.kind = ap (λ (x : Survey). x.depth) (c.read_first-depth.ensures.seen found.0 found.1) in
    subst (λ k. k ≤ max_open) (sym depth) (low_at ts c.args.first c.args.before found.0 found.1 c.requires.balanced c.requires.fits)

pub returns-then-is_line_end-clause-line : goal.returns-then-is_line_end-clause-line
returns-then-is_line_end-clause-line c =
    let ts = c.args.tokens.now.tokens in
    let at : ℕ = c.args.first in
    let i : ℕ = c.loop-number.number in
    let d : ℕ = c.loop-number.depth in
    let seen = c.loop-number.seen in
    let here = token_at ts i (omega arith) in
    let u = here.0 in
    let found = token_at ts at c.requires.within in
    let whole = survey_rest (survey_start c.args.before found.0) found.0 (drop (at + 1) ts) in
    let ends = sym (c.is_line_end.ensures u here.1) ∙ c.if-is_line_end.true in
    line_read ts at c.args.before found.0 c.line-then-is_line_end.result (survey_of seen d at (i + 1)) found.1 c.len-count.ensures.bounded.tokens c.requires.balanced c.requires.fits c.line-then-is_line_end.ensures.facts
    (seen_end seen u d at i (omega (arith, c.loop-number.invariant.order)) ends
    ∙ surveyed_end (drop (i + 1) ts) u (survey_step (survey_of seen d at i) u) whole ends (going_more ts i u (survey_of seen d at i) whole here.1 (c.loop-number.invariant.same found.0 found.1)))

pub with-seen-requires-clause-on : goal.with-seen-requires-clause-on
with-seen-requires-clause-on c = λ t e. sym c.if-is_line_end.false ∙ c.is_line_end.ensures t e

pub pass_steps-here-requires-clause-balanced : goal.pass_steps-here-requires-clause-balanced
pass_steps-here-requires-clause-balanced c =
    let ts = c.args.tokens.now.tokens in
    let i : ℕ = c.loop-number.number in
    let here = token_at ts i (omega arith) in
    subst (λ k. BalancedFrom k (drop (i + 1) ts)) (stopped_level here.0.kind c.loop-number.depth (c.loop-number.invariant.more here.0 here.1)) (rest_at ts i c.loop-number.depth here.0 here.1 c.loop-number.invariant.balanced)

pub loop-number-preserved : goal.loop-number-preserved
loop-number-preserved c =
    let ts = c.args.tokens.now.tokens in
    let at : ℕ = c.args.first in
    let i : ℕ = c.loop-number.number in
    let d : ℕ = c.loop-number.depth in
    let here = token_at ts i (omega arith) in
    let u = here.0 in
    let old : Survey = survey_of c.loop-number.seen d at i in
    let new : Survey = survey_of c.with-seen.result d at (i + 1) in
    let p = c.pass_steps-here.ensures.passes in
    record {
      same = λ v e. going_on ts i u old new (survey_rest (survey_start c.args.before v) v (drop (at + 1) ts)) here.1 (c.with-seen.ensures u here.1 at (omega (arith, c.loop-number.invariant.order))) (sym (c.is_line_end.ensures u here.1) ∙ c.if-is_line_end.false) (c.loop-number.invariant.same v e)
          ∙ p.same c.with-seen.result at (omega (arith, c.loop-number.invariant.order));
      more = c.pass_steps-here.ensures.more;
      balanced = p.balanced;
      low = p.low;
      order = omega (arith, p.order, c.loop-number.invariant.order);
      within = p.within;
    }

pub returns-clause-line : goal.returns-clause-line
returns-clause-line c =
    let ts = c.args.tokens.now.tokens in
    let at : ℕ = c.args.first in
    let found = token_at ts at c.requires.within in
    let whole = survey_rest (survey_start c.args.before found.0) found.0 (drop (at + 1) ts) in
    let s : Survey = survey_of c.loop-number.seen c.loop-number.depth at c.loop-number.number in
    line_read ts at c.args.before found.0 c.line-2.result s found.1 c.len-count.ensures.bounded.tokens c.requires.balanced c.requires.fits c.line-2.ensures.facts
    (going_out ts c.loop-number.number s whole (omega arith) (c.loop-number.invariant.same found.0 found.1))
