-- Replies that give an answer.
use Rattle.std.proofs.Common.{◌≡◌, ◌∙◌, ℕ, List, ap, ap₂, map, refl, subst}
use Rattle.std.proofs.lemmas.Result.{IfOk-weaker}
use Rattle.std.specs.Prelude.{IfOk, Result, Ok, Err, Vec}
use Rattle.json.specs.Json.{Json}
use Rattle.lint_forms.specs.JsonValues.{json_text}
use Rattle.text_places.specs.Edits.{edit_of, line_edits}
use Rattle.text_places.specs.PlacedEdits.{placed_edits}
use Rattle.text_places.specs.declared.edits.TextEdit.{TextEdit}
use Rattle.text_places.specs.declared.place.Units.{Units}
use Rattle.editor_messages.specs.Replies.{reply_json}
use Rattle.editor_messages.specs.declared.error.ReplyError.{ReplyError}
use Rattle.editor_session.specs.Answers.{Answered}
use Rattle.editor_session.specs.Inner.Replied.{Replied}

pub replied : {Y E : Type 0} (IsAnswer : Result Json ReplyError → Type 0) (id : Json) (answer : Result Json ReplyError) (r : Result (Vec ℕ Y) E) → IsAnswer answer
    → IfOk r (λ reply. reply.items ≡ json_text (reply_json id answer)) → IfOk r (Replied IsAnswer id)
replied IsAnswer id answer r is gives = IfOk-weaker r _ _ (λ reply h. (answer, is, h)) gives

pub same_edits : (units : Units) (text old again formatted new : List ℕ) (edits slice : List TextEdit) → old ≡ text → again ≡ text → new ≡ formatted → map edit_of edits ≡ line_edits old new → slice ≡ edits
    → placed_edits units again (map edit_of slice) ≡ placed_edits units text (line_edits text formatted)
same_edits units text old again formatted new edits slice o a n is s =
    ap₂ (placed_edits units) a (ap (map edit_of) s ∙ is ∙ ap₂ line_edits o n)

-- ---- what a request is about

-- it is there, and the answer is one to it
pub answered : {X Y E : Type 0} (IsAnswerTo : X → Result Json ReplyError → Type 0) (about : Result X ReplyError) (x : X) (id : Json) (r : Result (Vec ℕ Y) E) → Ok x ≡ about
    → IfOk r (Replied (IsAnswerTo x) id) → IfOk r (Replied (Answered IsAnswerTo about) id)
answered IsAnswerTo about x id r is gives = subst (λ a. IfOk r (Replied (Answered IsAnswerTo a) id)) is gives

-- it isn't, and the answer says so
pub refused : {X Y E : Type 0} (IsAnswerTo : X → Result Json ReplyError → Type 0) (about : Result X ReplyError) (why : ReplyError) (id : Json) (r : Result (Vec ℕ Y) E) → Err why ≡ about
    → IfOk r (λ reply. reply.items ≡ json_text (reply_json id (Err why))) → IfOk r (Replied (Answered IsAnswerTo about) id)
refused IsAnswerTo about why id r is gives = replied (Answered IsAnswerTo about) id (Err why) r (subst (λ a. Answered IsAnswerTo a (Err why)) is refl) gives
