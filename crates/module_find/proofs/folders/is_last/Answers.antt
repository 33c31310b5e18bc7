use Rattle.std.proofs.Common.{◌∙◌, sym}
use Rattle.std.proofs.lemmas.Slice.Eq.{bytes_eq-Decides}
use Rattle.module_find.proofs.ModuleLemmas.{got}
use Rattle.module_find.proofs.folders.is_last.Goals as goal

pub returns-in-Some : goal.returns-in-Some
returns-in-Some c = λ same. (
  c.in-Some.last.now,
  got c.args.folders.now _ c.in-Some.last.now (sym c.in-Some.ensures.value),
  sym c.as_slice.ensures.value ∙ (bytes_eq-Decides c.as_slice.result.now c.args.name.now).0 (sym c.eq.ensures ∙ same),
)
