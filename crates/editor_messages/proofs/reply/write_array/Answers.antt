use Rattle.std.proofs.Common.{◌∷◌, ap, map, sym}
use Rattle.json.specs.Token.{begin_array}
use Rattle.lint_forms.proofs.AddsLemmas.{added_then, adds_as, adds_then}
use Rattle.text_places.specs.Edits.{edit_of}
use Rattle.text_places.specs.PlacedEdits.{placed_edits}
use Rattle.editor_messages.specs.Replies.{edit_json}
use Rattle.editor_messages.proofs.EditTokenLemmas.{array_tokens}
use Rattle.editor_messages.proofs.reply.write_array.Goals as goal

pub returns : goal.returns
returns c =
    let w0 = c.args.writer.now in
    let w1 = c.write_parts.new.writer in
    let w2 = c.write_edits.new.writer in
    let w3 = c.write_parts-2.new.writer in
    adds_as c.write_parts-2.result w0 w3 _ _
    (ap (λ l. begin_array ∷ l) (sym (array_tokens edit_json (placed_edits c.args.units c.args.text.now (map edit_of c.args.edits.now)))))
    (adds_then c.write_parts-2.result w0 w2 w3 _ _ (added_then w0 w1 w2 _ _ c.in_ok-write_parts.ensures c.in_ok-write_edits.ensures) c.write_parts-2.ensures)
