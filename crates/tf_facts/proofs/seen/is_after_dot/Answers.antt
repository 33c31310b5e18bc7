use Rattle.std.proofs.Common.{◌≡◌, ◌∙◌, ◌-◌, ap, sym, arith}
use Rattle.hcl_tokens.specs.Kinds.{is}
use Rattle.hcl_tokens.specs.declared.token.Kind.TheVariants.{Dot}
use Rattle.hcl_grammar.specs.Numbered.{is_passed_over}
use Rattle.tf_facts.specs.Seen.{after_dot}
use Rattle.tf_facts.proofs.PatternLemmas.{there_is}
use Rattle.tf_facts.proofs.SeenLemmas.{after_past, after_seen}
use Rattle.tf_facts.proofs.seen.is_after_dot.Goals as goal

pub returns-then-not-is_passed_over : goal.returns-then-not-is_passed_over
returns-then-not-is_passed_over c =
    let t = there_is c.args.tokens.now.tokens (c.loop-before.before - 1) (omega (arith, c.loop-before.invariant.within, c.loop-before-test.true)) in
    c.is_dot.ensures
    ∙ ap (is Dot) (c.kind-kind.ensures t.0 t.1)
    ∙ sym (after_seen c.args.tokens.now.tokens (c.loop-before.before - 1) c.loop-before.before (omega (arith, c.loop-before-test.true)) t.0 t.1
    (ap is_passed_over (sym (c.kind-kind.ensures t.0 t.1)) ∙ sym c.is_passed_over.ensures ∙ c.if-not-is_passed_over.true))
    ∙ c.loop-before.invariant.same

pub loop-before-preserved : goal.loop-before-preserved
loop-before-preserved c =
    let t = there_is c.args.tokens.now.tokens (c.loop-before.before - 1) (omega (arith, c.loop-before.invariant.within, c.loop-before-test.true)) in
    record {
      same = sym (after_past c.args.tokens.now.tokens (c.loop-before.before - 1) c.loop-before.before (omega (arith, c.loop-before-test.true)) t.0 t.1
          (ap is_passed_over (sym (c.kind-kind.ensures t.0 t.1)) ∙ sym c.is_passed_over.ensures ∙ c.if-not-is_passed_over.false))
          ∙ c.loop-before.invariant.same;
      within = omega (arith, c.loop-before.invariant.within);
    }

pub returns : goal.returns
returns c =
    let none : c.loop-before.before ≡ 0 = omega (arith, c.loop-before-test.false) in
    sym (ap (after_dot c.args.tokens.now.tokens) none) ∙ c.loop-before.invariant.same
