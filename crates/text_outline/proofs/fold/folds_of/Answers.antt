use Rattle.std.proofs.Common.{◌∙◌, ℕ, List, subst}
use Rattle.std.specs.Prelude.{IfOk}
use Rattle.text_outline.specs.Folds.{HasFolds}
use Rattle.text_outline.proofs.fold.folds_of.Goals as goal

pub returns-in-Ok : goal.returns-in-Ok
returns-in-Ok c = subst (λ (text : List ℕ). IfOk c.source_folds.result (λ folds. HasFolds text folds.items)) (c.in-Ok.ensures.loaded.0 ∙ c.as_bytes.ensures.value) c.source_folds.ensures
