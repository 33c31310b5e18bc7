-- A reply that gives an answer.
use Rattle.std.specs.Prelude.{◌≡◌, ℕ, List, Result, Ok, Err, Vec}
use Rattle.std.specs.Borrow.{Bor}
use Rattle.json.specs.Json.{Json}
use Rattle.lint_forms.specs.JsonValues.{json_text}
use Rattle.editor_messages.specs.Replies.{reply_json}
use Rattle.editor_messages.specs.declared.error.ReplyError.{ReplyError}

abbrev pub Replied : {Y : Type 0} → (Result Json ReplyError → Type 0) → Json → Vec ℕ Y → Type 0
Replied IsAnswer id reply = (answer : Result Json ReplyError) × IsAnswer answer × (reply.items ≡ json_text (reply_json id answer))

abbrev pub text_or_error_seen : Result (Bor (List ℕ)) ReplyError → Result (List ℕ) ReplyError
text_or_error_seen (Ok text) = Ok text.now
text_or_error_seen (Err error) = Err error
