use Rattle.std.proofs.Common.{rules, arith, refl, [], ◌∷◌}
use Rattle.hcl_grammar.specs.declared.expected.Newlines.TheVariants.{Seen}
use Rattle.hcl_grammar.specs.Grammar.{◌at◌, labels}
use Rattle.hcl_syntax.proofs.CursorStepLemmas.{looks, reading, refusing, refusing-end, onward, beside, quits, done, kept-refusal, kept-refusal-end}
use Rattle.hcl_syntax.proofs.cursor.Cursor.labels.Goals as goal

pub returns-in_default-clause-leads : goal.returns-in_default-clause-leads
returns-in_default-clause-leads c = kept-refusal-end c.keep_refusal.ensures.refusal (onward c.loop-token.invariant.leads (refusing-end c.look.ensures.left c.in_default.ensures.found refl))

pub loop-token-preserved-in-Ident : goal.loop-token-preserved-in-Ident
loop-token-preserved-in-Ident c = record { leads = onward c.loop-token.invariant.leads (reading (looks _ _ _ _ _ c.look.ensures.left c.in-Some.ensures.found c.bump.ensures.left) (search rules) (done)); shorter = omega arith }

pub loop-token-preserved : goal.loop-token-preserved
loop-token-preserved c = record { leads = onward c.loop-token.invariant.leads (reading (looks _ _ _ _ _ c.look.ensures.left c.in-Some.ensures.found c.bump-in-QuoteOpen.ensures.left) (search rules) (beside (labels at Seen ∷ []) c.in_ok-label-in-QuoteOpen.ensures.parses)); shorter = omega (arith, c.in_ok-label-in-QuoteOpen.ensures.shorter) }

pub returns-in_err-label-in-QuoteOpen-clause-leads : goal.returns-in_err-label-in-QuoteOpen-clause-leads
returns-in_err-label-in-QuoteOpen-clause-leads c = quits _ c.from_residual.ensures.1 (onward c.loop-token.invariant.leads (reading (looks _ _ _ _ _ c.look.ensures.left c.in-Some.ensures.found c.bump-in-QuoteOpen.ensures.left) (search rules) (beside (labels at Seen ∷ []) c.in_err-label-in-QuoteOpen.ensures.parses)))

pub returns-in-BraceOpen-clause-leads : goal.returns-in-BraceOpen-clause-leads
returns-in-BraceOpen-clause-leads c = onward c.loop-token.invariant.leads (reading (looks _ _ _ _ _ c.look.ensures.left c.in-Some.ensures.found c.bump-in-BraceOpen.ensures.left) (search rules) (done))

pub returns-in_default-class : goal.returns-in_default-class
returns-in_default-class c = record { leads = kept-refusal c.keep_refusal-in_default-class.ensures.refusal (onward c.loop-token.invariant.leads (refusing (looks _ _ _ _ _ c.look.ensures.left c.in-Some.ensures.found refl) (search rules))); shorter = tt }
