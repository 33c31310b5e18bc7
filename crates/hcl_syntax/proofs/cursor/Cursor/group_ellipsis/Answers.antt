use Rattle.std.proofs.Common.{refl}
use Rattle.hcl_syntax.proofs.CursorStepLemmas.{reading, done, alike, group-dots, group-plain}
use Rattle.hcl_syntax.proofs.cursor.Cursor.group_ellipsis.Goals as goal

pub returns-then-takes-clause-leads : goal.returns-then-takes-clause-leads
returns-then-takes-clause-leads c = λ count. reading c.if-takes.ensures.yes.looks (group-dots _ _ c.if-takes.ensures.yes.fits) done

pub returns-clause-leads : goal.returns-clause-leads
returns-clause-leads c = λ count. alike refl (λ t e. group-plain _ _ (c.if-takes.ensures.no.unfit t e)) c.if-takes.ensures.no.shows
