use Rattle.std.proofs.Common.{rules, refl}
use Rattle.hcl_syntax.proofs.CursorStepLemmas.{reading, done, looks, refusing, refusing-end, kept-refusal, kept-refusal-end}
use Rattle.hcl_syntax.proofs.cursor.Cursor.separator.Goals as goal

pub returns-in-None-clause-parses : goal.returns-in-None-clause-parses
returns-in-None-clause-parses c = λ count. kept-refusal-end c.keep_refusal.ensures.refusal (refusing-end c.look.ensures.left c.in-None.ensures.found refl)

pub returns-in-Assign-clause-parses : goal.returns-in-Assign-clause-parses
returns-in-Assign-clause-parses c = λ count. reading (looks _ _ _ _ _ c.look.ensures.left c.in-Some.ensures.found c.bump.ensures.left) (search rules) done

pub returns-in_default : goal.returns-in_default
returns-in_default c = record { parses = λ count. kept-refusal c.keep_refusal-in_default.ensures.refusal (refusing (looks _ _ _ _ _ c.look.ensures.left c.in-Some.ensures.found refl) (search rules)); shorter = tt }
