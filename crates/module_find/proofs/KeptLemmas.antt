-- Refusals that are kept, one after another.
use Rattle.std.proofs.Common.{◌∙◌, ◌++◌, [], List, ap, append-nil, append_assoc, map, sym}
use Rattle.std.proofs.lemmas.List.{map-append}
use Rattle.module_find.specs.KeptRefusals.{KeepsAll, kept_remark, refusal_remark}
use Rattle.module_find.specs.Refusals.{Refusal}
use Rattle.module_find.specs.declared.kept.KeptRefusals.{KeptRefusals}

-- no refusal is kept
pub keeps_none : (kept : KeptRefusals) → KeepsAll kept kept []
keeps_none kept whole = (whole, sym (append-nil (map kept_remark kept.refusals.items)))

-- the refusals of one list are kept, and then those of another
pub keeps_more : (a b c : KeptRefusals) (rs qs : List Refusal) → KeepsAll a b rs → KeepsAll b c qs → KeepsAll a c (rs ++ qs)
keeps_more a b c rs qs first then' whole =
    let later = then' whole in
    let earlier = first later.0 in (
      earlier.0,
      later.1 ∙ ap (λ l. l ++ map refusal_remark qs) earlier.1 ∙ append_assoc (map kept_remark a.refusals.items) (map refusal_remark rs) (map refusal_remark qs)
          ∙ ap (λ l. map kept_remark a.refusals.items ++ l) (sym (map-append refusal_remark rs qs)),
    )
