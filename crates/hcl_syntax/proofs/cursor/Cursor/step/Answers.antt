use Rattle.std.proofs.Common.{rules, refl}
use Rattle.hcl_syntax.proofs.CursorStepLemmas.{looks, reading, refusing, refusing-end, done, kept-refusal, kept-refusal-end}
use Rattle.hcl_syntax.proofs.cursor.Cursor.step.Goals as goal

pub returns-in-None-clause-parses : goal.returns-in-None-clause-parses
returns-in-None-clause-parses c = λ count. kept-refusal-end c.keep_refusal.ensures.refusal (refusing-end c.look.ensures.left c.in-None.ensures.found refl)

pub returns-in-Ident-clause-parses : goal.returns-in-Ident-clause-parses
returns-in-Ident-clause-parses c = λ count. reading (looks _ _ _ _ _ c.look.ensures.left c.in-Some.ensures.found c.bump.ensures.left) (search rules) done

pub returns-then-digits-clause-parses : goal.returns-then-digits-clause-parses
returns-then-digits-clause-parses c = λ count. reading (looks _ _ _ _ _ c.look.ensures.left c.in-Some.ensures.found c.bump-then-digits.ensures.left) (search rules) done

pub returns-else-digits-clause-parses : goal.returns-else-digits-clause-parses
returns-else-digits-clause-parses c = λ count. kept-refusal c.keep_refusal-else-digits.ensures.refusal (refusing (looks _ _ _ _ _ c.look.ensures.left c.in-Some.ensures.found refl) (search rules))

pub returns-in_default-clause-parses : goal.returns-in_default-clause-parses
returns-in_default-clause-parses c = λ count. kept-refusal c.keep_refusal-in_default.ensures.refusal (refusing (looks _ _ _ _ _ c.look.ensures.left c.in-Some.ensures.found refl) (search rules))
