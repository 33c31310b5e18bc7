use Rattle.std.proofs.Common.{◌≡◌, ◌∙◌, ◌<◌, ◌≤◌, ◌++◌, [], ap, ap₂, arith, get_or, length, map, refl, subst, sym}
use Rattle.std.proofs.lemmas.List.{length-map, take_all}
use Rattle.std.specs.Prelude.{◌&&◌, ◌||◌, string_bytes}
use Rattle.file_tree.specs.Files.{Files}
use Rattle.open_files.specs.OpenTexts.{file_uri, version_open}
use Rattle.editor_messages.specs.Views.{document_ranges_seen}
use Rattle.editor_names.specs.Modules.{document_of, file_declares, is_read}
use Rattle.editor_names.specs.Views.{query_seen}
use Rattle.editor_names.proofs.SearchLemmas.{HaveFound, found_more, found_none, name_here}
use Rattle.editor_names.proofs.files.ranges_in_files.Goals as goal
use Rattle.editor_names.proofs.files.ranges_in_files.Goals.{then-is_declared, else-is_declared, then-is_whole, else-is_whole}

pub loop-number-init : goal.loop-number-init
loop-number-init g c = (refl, refl, found_none _ _ _ c.new-found.result.items c.new-found.ensures.items)

pub loop-number-preserved : goal.loop-number-preserved
loop-number-preserved g c =
    let kept = c.loop-number.invariant in
    let number = c.loop-number.number in
    let declared = c.loop-number.is_declared in
    let whole = c.loop-number.is_whole in
    let file = c.in_ok-file.file in
    let name = c.as_str-name.result.now in
    let documents = c.args.documents.now in
    let first = g.T.Tree.files c.args.tree.now in
    let later = g.T.Tree.files c.loop-number.tree in
    let names = map string_bytes c.args.names.now in
    let before = map document_ranges_seen c.loop-number.found.items in
    let lt : number < length names = omega (arith, length-map c.args.names.now string_bytes, c.loop-number-test.true) in
    let named : name ≡ get_or names number [] = name_here c.args.names.now number c.index-names-number.result name c.loop-number-test.true c.index-names-number.is c.as_str-name.ensures.value in
    let uri = c.in_ok-uri.ensures ∙ ap (file_uri documents) c.as_bytes.ensures.value in
    let version = c.version_at.ensures ∙ ap (version_open documents) c.as_bytes-in-loop-number.ensures.value in
    let grown = c.in_ok-add_document.ensures ∙ ap₂ (λ u v. before ++ document_of u v file) uri version in
    let either : c.if-is_declared.is_declared ≡ (declared || file_declares file) = elim c.if-is_declared.branch [ then-is_declared w ↦ w.is_declared-is ∙ w.if-is_declared.true ∙ ap (λ b. b || file_declares file) (sym w.if-is_declared.true) | else-is_declared w ↦ w.is_declared-is ∙ w.file_declares-is_declared.ensures ∙ ap (λ b. b || file_declares file) (sym w.if-is_declared.false) ] in
    let both : c.if-is_whole.is_whole ≡ (whole && is_read file) = elim c.if-is_whole.branch [ then-is_whole w ↦ w.is_whole-is ∙ w.is_read-is_whole.ensures ∙ ap (λ b. b && is_read file) (sym w.if-is_whole.true) | else-is_whole w ↦ w.is_whole-is ∙ w.if-is_whole.false ∙ ap (λ b. b && is_read file) (sym w.if-is_whole.false) ] in (
      c.in_ok-file.ensures.unchanged.0 ∙ kept.0,
      c.in_ok-file.ensures.unchanged.1 ∙ kept.1,
      found_more (query_seen c.args.query) documents (λ n. first.told (first.real n)) names number name (later.told (later.real name)) c.loop-number.found.items c.add_document.new.found.items declared c.if-is_declared.is_declared whole c.if-is_whole.is_whole file lt named (ap (λ (f : Files). f.told (f.real name)) kept.0) c.in_ok-file.ensures.is grown either both kept.2,
    )

pub returns-clause-are : goal.returns-clause-are
returns-clause-are g c =
    let first = g.T.Tree.files c.args.tree.now in
    let names = map string_bytes c.args.names.now in
    let all : length names ≤ c.loop-number.number = omega (arith, length-map c.args.names.now string_bytes, c.loop-number-test.false) in
    let found = subst (λ ns. HaveFound (query_seen c.args.query) c.args.documents.now (λ n. first.told (first.real n)) ns c.loop-number.found.items c.loop-number.is_declared c.loop-number.is_whole) (take_all c.loop-number.number names all) c.loop-number.invariant.2 in
    record { files = found.files; are = found.are; documents_are = found.documents_are; declared = found.declared_is; whole = found.whole_is }
