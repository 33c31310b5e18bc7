use Rattle.std.proofs.Common.{subst}
use Rattle.lint_forms.proofs.AddsLemmas.{Added, added_then}
use Rattle.editor_messages.specs.Inner.Named.{change_tokens}
use Rattle.editor_messages.specs.Views.{document_ranges_seen}
use Rattle.editor_messages.proofs.NamedLemmas.{one_more_item}
use Rattle.editor_messages.proofs.rename.write_changes.Goals as goal

pub loop-document-preserved : goal.loop-document-preserved
loop-document-preserved c =
    let w0 = c.args.writer.now in
    let w1 = c.loop-document.writer in
    let w2 = c.write_change.new.writer in
    subst (Added w0 w2) (one_more_item (change_tokens c.args.name.now) (document_ranges_seen) c.args.documents.now c.loop-document.document-index c.document-item.result c.document-item.is c.loop-document-test.true)
    (added_then w0 w1 w2 _ _ c.loop-document.invariant c.in_ok-write_change.ensures)
