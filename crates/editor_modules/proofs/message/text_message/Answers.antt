use Rattle.std.proofs.Common.{◌∙◌, ap, refl, subst}
use Rattle.std.proofs.lemmas.Result.{IfOk-weaker}
use Rattle.std.specs.Prelude.{None, Some}
use Rattle.hcl_source.specs.FaultTexts.{fault_text}
use Rattle.module_check.specs.Faults.{HasFault}
use Rattle.editor_modules.specs.FileDiagnostics.{refusal}
use Rattle.editor_modules.specs.Messages.{message_of}
use Rattle.editor_modules.specs.Told.{told_document, withdrawn}
use Rattle.editor_modules.proofs.message.text_message.Goals as goal

pub returns-in-Some : goal.returns-in-Some
returns-in-Some c =
    let fault = c.in-Some.fault in
    let has = subst (HasFault c.args.units c.args.text.now) c.in-Some.is c.in_ok-fault.ensures in
    IfOk-weaker c.told_message.result _ _
    (λ message h. (told_document c.args.uri.now (refusal fault.range (fault_text fault.kind)), (Some fault, has, refl), h ∙ ap (λ text. message_of (told_document c.args.uri.now (refusal fault.range text))) c.text.ensures))
    c.told_message.ensures

pub returns-in-None : goal.returns-in-None
returns-in-None c =
    let has = subst (HasFault c.args.units c.args.text.now) c.in-None.is c.in_ok-fault.ensures in
    IfOk-weaker c.withdrawal.result _ _ (λ message h. (withdrawn c.args.uri.now, (None, has, refl), h)) c.withdrawal.ensures
