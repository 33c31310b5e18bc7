use Rattle.std.proofs.Common.{◌∙◌, ap, sym}
use Rattle.std.specs.Prelude.{not}
use Rattle.module_find.specs.Modules.{is_lost_by, is_no_matter}
use Rattle.module_find.proofs.lost.is_lost.Goals as goal

pub returns-in-Some : goal.returns-in-Some
returns-in-Some c = ap not (c.is_no_matter.ensures ∙ ap (is_no_matter c.in-Some.fault) c.as_slice.ensures.value) ∙ ap (λ o. is_lost_by o c.args.found.now.name.items) (sym c.in-Some.is)
