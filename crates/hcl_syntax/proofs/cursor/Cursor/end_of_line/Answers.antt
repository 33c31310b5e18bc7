use Rattle.std.proofs.Common.{rules, refl}
use Rattle.hcl_syntax.proofs.CursorStepLemmas.{looks, reading, vanishing-end, refusing, done, kept-refusal}
use Rattle.hcl_syntax.proofs.cursor.Cursor.end_of_line.Goals as goal

pub returns-in_default-clause-parses : goal.returns-in_default-clause-parses
returns-in_default-clause-parses c = vanishing-end c.look.ensures.left c.in_default.ensures.found refl

pub returns-in-Newline-clause-parses : goal.returns-in-Newline-clause-parses
returns-in-Newline-clause-parses c = reading (looks _ _ _ _ _ c.look.ensures.left c.in-Some.ensures.found c.bump.ensures.left) (search rules) (done)

pub returns-in_default-class : goal.returns-in_default-class
returns-in_default-class c = record { parses = kept-refusal c.keep_refusal.ensures.refusal (refusing (looks _ _ _ _ _ c.look.ensures.left c.in-Some.ensures.found refl) (search rules)); shorter = tt }
