use Rattle.std.proofs.Common.{map, take}
use Rattle.lint_forms.proofs.AddsLemmas.{Added}
use Rattle.editor_messages.specs.Inner.Named.{versioned_tokens}
use Rattle.editor_messages.specs.Views.{document_ranges_seen}
use Rattle.editor_messages.proofs.rename.write_versioned_documents.Given as goal

abbrev pub invariant-loop-document : goal.invariant-loop-document
invariant-loop-document l = Added l.initial.writer l.writer (versioned_tokens l.name (map document_ranges_seen (take l.document-index l.documents)))
