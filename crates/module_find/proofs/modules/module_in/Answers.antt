use Rattle.std.proofs.Common.{◌∙◌, inl, refl}
use Rattle.module_find.proofs.ModuleLemmas.{if_ok_more}
use Rattle.module_find.proofs.modules.module_in.Goals as goal

pub returns-in-Some-clause-is : goal.returns-in-Some-clause-is
returns-in-Some-clause-is g c =
    let l = c.in-Some.ensures.taken in
    if_ok_more c.module_of.result _ _ c.module_of.ensures (λ s h. (c.in-Some.found.items, inl (refl, (l.0, l.1, l.2 ∙ c.as_slice.ensures.value, l.3)), h))
