use Rattle.std.proofs.Common.{◌∙◌, ap₂, map, sym}
use Rattle.std.proofs.lemmas.List.{length-map}
use Rattle.std.specs.Prelude.{string_bytes}
use Rattle.open_files.specs.OpenTexts.{with_open}
use Rattle.editor_modules.proofs.ModuleLemmas.{as_many, tells_linted}
use Rattle.editor_modules.proofs.told.module_messages.Goals as goal

pub messages_of-requires-clause-each : goal.messages_of-requires-clause-each
messages_of-requires-clause-each g c =
    let names = c.as_slice-names.result.now in
    sym (length-map names string_bytes) ∙ as_many _ 0 (map string_bytes names) c.in_ok-checked.checked.files.items c.in_ok-checked.ensures.checked.states

pub returns : goal.returns
returns g c =
    let documents = c.args.documents.now in
    let files = with_open c.new-files.result.documents.now (g.T.Tree.files c.new-files.result.tree) in
    let later = with_open c.module_in.new.tree.documents.now (g.T.Tree.files c.module_in.new.tree.tree) in
    tells_linted c.args.units documents (g.T.Tree.files c.args.tree) c.args.folder.now files later c.in_ok-governed.field-0 c.in-Some.governed c.as_slice-names.result.now c.is_lintable.result c.in_ok-checked.checked c.in_ok-messages_of.field-0.items
    (ap₂ (λ d t. with_open d (g.T.Tree.files t)) c.new-files.ensures.documents c.new-files.ensures.tree) c.in_ok-governed.ensures.unchanged.0 c.in-Some.is c.as_slice-names.ensures.value c.is_lintable.ensures.value c.if-not-is_lintable.false
    c.in_ok-governed.ensures.is c.in_ok-checked.ensures.checked c.in_ok-messages_of.ensures
