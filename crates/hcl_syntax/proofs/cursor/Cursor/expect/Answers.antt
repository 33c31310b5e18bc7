use Rattle.std.proofs.Common.{refl}
use Rattle.hcl_syntax.proofs.CursorStepLemmas.{looks, reading, refusing, refusing-end, done, row-fits, row-unfit, kept-refusal, kept-refusal-end}
use Rattle.hcl_syntax.proofs.cursor.Cursor.expect.Goals as goal

pub returns-in-None-clause-parses : goal.returns-in-None-clause-parses
returns-in-None-clause-parses c = λ count. kept-refusal-end c.keep_refusal.ensures.refusal (refusing-end c.look.ensures.left c.in-None.ensures.found refl)

pub returns-then-fits-clause-parses : goal.returns-then-fits-clause-parses
returns-then-fits-clause-parses c = λ count. reading (looks _ _ _ _ _ c.look.ensures.left c.in-Some.ensures.found c.bump.ensures.left) (row-fits c.args.terminal c.args.newlines c.in-Some.token _ c.fits.ensures c.if-fits.true) done

pub returns-else-fits-clause-parses : goal.returns-else-fits-clause-parses
returns-else-fits-clause-parses c = λ count. kept-refusal c.keep_refusal-else-fits.ensures.refusal (refusing (looks _ _ _ _ _ c.look.ensures.left c.in-Some.ensures.found refl) (row-unfit c.args.terminal c.args.newlines c.in-Some.token _ c.fits.ensures c.if-fits.false))
