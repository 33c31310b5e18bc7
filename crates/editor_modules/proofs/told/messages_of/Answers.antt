use Rattle.std.proofs.Common.{◌<◌, ◌≡◌, ◌∙◌, ap, arith, length, map}
use Rattle.std.proofs.lemmas.List.{length-map}
use Rattle.std.specs.Prelude.{string_bytes}
use Rattle.editor_modules.specs.FileDiagnostics.{file_diagnostics}
use Rattle.editor_modules.specs.Messages.{message_of}
use Rattle.editor_modules.proofs.ModuleLemmas.{left_more, left_none, name_here}
use Rattle.editor_modules.proofs.told.messages_of.Goals as goal

pub loop-number-init : goal.loop-number-init
loop-number-init c = left_none c.args.units c.args.documents.now c.args.checked.now.issues.items (map string_bytes c.args.names.now) c.args.checked.now.files.items c.new-all.result.items c.new-all.ensures.items

pub loop-number-preserved : goal.loop-number-preserved
loop-number-preserved c =
    let number = c.loop-number.number in
    let names = map string_bytes c.args.names.now in
    let name = c.as_bytes.result.now in
    let issues = c.as_slice-issues.result.now in
    let state = c.index-as_slice-number.result in
    let here : number < length c.args.names.now = omega (arith, c.loop-number-test.true) in
    let within : number < length names = omega (arith, length-map c.args.names.now string_bytes, here) in
    let each : length names ≡ length c.args.checked.now.files.items = omega (arith, length-map c.args.names.now string_bytes, c.requires.each) in
    left_more c.args.units c.args.documents.now c.args.checked.now.issues.items issues names c.args.checked.now.files.items c.as_slice.result.now number name state c.loop-number.all.items c.push.new.self.items c.in_ok-message.message
    within each c.as_slice-issues.ensures.value c.as_slice.ensures.value (name_here c.args.names.now number c.index-names-number.result name here c.index-names-number.is c.as_bytes.ensures.value) c.index-as_slice-number.is
    (c.in_ok-message.ensures ∙ ap (λ uri. message_of (record { uri = uri; diagnostics = file_diagnostics c.args.units issues number state })) (c.as_str.ensures.value ∙ c.in_ok-uri.ensures)) c.in_ok-push.ensures.items c.loop-number.invariant
