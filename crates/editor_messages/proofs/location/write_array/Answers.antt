use Rattle.std.proofs.Common.{◌∷◌, ap, map}
use Rattle.json.specs.Token.{begin_array}
use Rattle.editor_messages.specs.Views.{document_ranges_seen}
use Rattle.editor_messages.proofs.NamedLemmas.{all_locations}
use Rattle.lint_forms.proofs.AddsLemmas.{added_then, adds_as, adds_then}
use Rattle.editor_messages.proofs.location.write_array.Goals as goal

pub returns : goal.returns
returns c =
    let w0 = c.args.writer.now in
    let w1 = c.write_parts.new.writer in
    let w2 = c.write_documents.new.writer in
    let w3 = c.write_parts-2.new.writer in
    adds_as c.write_parts-2.result w0 w3 _ _ (ap (λ l. begin_array ∷ l) (all_locations (map document_ranges_seen c.args.documents.now)))
    (adds_then c.write_parts-2.result w0 w2 w3 _ _ (added_then w0 w1 w2 _ _ c.in_ok-write_parts.ensures c.in_ok-write_documents.ensures) c.write_parts-2.ensures)
