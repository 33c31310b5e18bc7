-- An editor makes a text its format.
use Rattle.std.proofs.Common.{◌≡◌, ◌∙◌, ℕ, List, ap, inl, inr, map}
use Rattle.std.specs.Prelude.{Option, Ok, Result, Some, None}
use Rattle.json.specs.Json.{Json}
use Rattle.text_places.specs.Edits.{line_edits}
use Rattle.text_places.specs.PlacedEdits.{placed_edit, placed_edits}
use Rattle.text_places.proofs.EditLemmas.{no_edits}
use Rattle.text_places.proofs.MadeLemmas.{editors_make}
use Rattle.text_format.specs.Format.{HasFormat}
use Rattle.text_places.specs.declared.place.Units.{Units}
use Rattle.editor_messages.specs.Replies.{edits_json}
use Rattle.editor_messages.specs.declared.error.ReplyError.{ReplyError}
use Rattle.editor_session.specs.Answers.{IsFormatting, edits_to}
use Rattle.editor_session.specs.Laws.{MakesFormat}

module _ (units : Units) (text : List ℕ) (answer : Result Json ReplyError) where
  by_format : (format : Option (List ℕ)) → HasFormat text format → answer ≡ Ok (edits_json (placed_edits units text (edits_to text format))) → MakesFormat units text answer
  by_format None has is = inr (has.0, has.1, is)
  by_format (Some formatted) has is =
      inl (
        formatted,
        placed_edits units text (line_edits text formatted),
        record {
          format = has;
          answer = is;
          made = editors_make units text formatted has.text.utf8;
          none = λ same. ap (λ f. placed_edits units text (line_edits text f)) same ∙ ap (map (placed_edit units text)) (no_edits text);
        },
      )

pub editors_get : (units : Units) (text : List ℕ) (answer : Result Json ReplyError) → IsFormatting units text answer → MakesFormat units text answer
editors_get units text answer is = by_format units text answer is.0 is.1 is.2
