use Rattle.std.proofs.Common.{◌∙◌, ℕ, List, subst}
use Rattle.std.specs.Prelude.{IfOk}
use Rattle.editor_names.specs.Names.{HasNameAt}
use Rattle.editor_names.specs.Views.{named_seen}
use Rattle.editor_names.proofs.named.name_at.Goals as goal

pub returns-in-Ok : goal.returns-in-Ok
returns-in-Ok c =
    subst (λ (text : List ℕ). IfOk c.name_in_source.result (λ found. HasNameAt c.args.units c.args.place text (named_seen found))) (c.in-Ok.ensures.loaded.0 ∙ c.as_bytes.ensures.value) c.name_in_source.ensures
