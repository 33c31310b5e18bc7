use Rattle.std.proofs.Common.{rules, arith, refl, [], ◌∷◌}
use Rattle.hcl_grammar.specs.Grammar.{◌at◌, path}
use Rattle.hcl_syntax.proofs.CursorStepLemmas.{looks, reading, refusing, refusing-end, onward, beside, quits, done, kept-refusal, kept-refusal-end}
use Rattle.hcl_syntax.proofs.cursor.Cursor.path.Goals as goal

pub returns-in_err-expect-clause-leads : goal.returns-in_err-expect-clause-leads
returns-in_err-expect-clause-leads c = λ count. quits _ c.from_residual.ensures.1 (onward (c.loop-self.invariant.leads count) (beside (path at c.args.newlines ∷ []) (c.in_err-expect.ensures.parses count)))

pub returns-in_default-clause-leads : goal.returns-in_default-clause-leads
returns-in_default-clause-leads c = λ count. kept-refusal-end c.keep_refusal.ensures.refusal (onward (c.loop-self.invariant.leads count) (onward (beside (path at c.args.newlines ∷ []) (c.in_ok-expect.ensures.parses count)) (refusing-end c.look.ensures.left c.in_default.ensures.found refl)))

pub loop-self-preserved : goal.loop-self-preserved
loop-self-preserved c = record {
  leads = λ count. onward (c.loop-self.invariant.leads count) (onward (beside (path at c.args.newlines ∷ []) (c.in_ok-expect.ensures.parses count)) (reading (looks _ _ _ _ _ c.look.ensures.left c.in-Some.ensures.found c.bump.ensures.left) (search rules) done));
  shorter = omega (arith, c.loop-self.invariant.shorter, c.in_ok-expect.ensures.shorter, c.look.ensures.shorter, c.bump.ensures.shorter);
}

pub returns-in-ParenOpen-clause-leads : goal.returns-in-ParenOpen-clause-leads
returns-in-ParenOpen-clause-leads c = λ count. onward (c.loop-self.invariant.leads count) (onward (beside (path at c.args.newlines ∷ []) (c.in_ok-expect.ensures.parses count)) (reading (looks _ _ _ _ _ c.look.ensures.left c.in-Some.ensures.found c.bump-in-ParenOpen.ensures.left) (search rules) done))

pub returns-in_default-class : goal.returns-in_default-class
returns-in_default-class c = record {
  leads = λ count. kept-refusal c.keep_refusal-in_default-class.ensures.refusal (onward (c.loop-self.invariant.leads count) (onward (beside (path at c.args.newlines ∷ []) (c.in_ok-expect.ensures.parses count)) (refusing (looks _ _ _ _ _ c.look.ensures.left c.in-Some.ensures.found refl) (search rules))));
  shorter = tt;
}
