use Rattle.std.proofs.Common.{ℕ, List, refl, subst}
use Rattle.std.proofs.lemmas.Result.{IfOk-weaker}
use Rattle.std.specs.Prelude.{Option, IfOk}
use Rattle.editor_modules.specs.Inner.Added.{TellsByText}
use Rattle.editor_modules.specs.Told.{withdrawn}
use Rattle.editor_modules.proofs.message.message_alone.Goals as goal

pub returns-in-None : goal.returns-in-None
returns-in-None c =
    subst (λ (text : Option (List ℕ)). IfOk c.withdrawal.result (TellsByText c.args.units c.args.uri.now text)) c.in-None.ensures
    (IfOk-weaker c.withdrawal.result _ _ (λ message h. (withdrawn c.args.uri.now, refl, h)) c.withdrawal.ensures)
