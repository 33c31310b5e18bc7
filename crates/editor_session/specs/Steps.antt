-- A STEP: what a message makes of a session, and what the server says to it.
use Rattle.std.specs.Prelude.{◌≡◌, ◌⊎◌, ℕ, List, Option, Some, None, Result, map}
use Rattle.std.specs.Str.{IsUtf8}
use Rattle.file_tree.specs.Files.{Files}
use Rattle.json.specs.Json.{Json, document, null}
use Rattle.lint_forms.specs.JsonValues.{json_text}
use Rattle.editor_messages.specs.Messages.{Message, Notification, Invalid, Response, Asks, Tells, Text, Close, Exit, Other, message_of}
use Rattle.editor_messages.specs.Replies.{error_json, reply_json}
use Rattle.editor_messages.specs.declared.error.ReplyError.{ReplyError}
use Rattle.editor_messages.specs.declared.error.ReplyError.TheVariants as error
use Rattle.editor_modules.specs.Messages.{DocumentMessage, message_seen}
use Rattle.editor_session.specs.Answers.{IsAnswer}
use Rattle.editor_session.specs.Sessions.{Session, after_notification, after_request, exit_status, without_texts}
use Rattle.editor_session.specs.Told.{TellsClosed, TellsText}
use Rattle.editor_session.specs.declared.phase.Phase.{Phase}
use Rattle.editor_session.specs.declared.phase.Phase.TheVariants as phase
use Rattle.editor_session.specs.declared.turn.Turn.{Turn}
use Rattle.editor_session.specs.declared.turn.Turn.TheVariants as turns

-- what the server says is this value
abbrev pub Says : Json → Turn → Type 0
Says value turns.Quiet = ⊥
Says value (turns.Say body) = body.items ≡ json_text value
Says value (turns.Publish messages) = ⊥
Says value (turns.End status) = ⊥

-- the server says messages that have this property in turn
abbrev pub Publishes : (List DocumentMessage → Type 0) → Turn → Type 0
Publishes Are turns.Quiet = ⊥
Publishes Are (turns.Say body) = ⊥
Publishes Are (turns.Publish messages) = Are (map message_seen messages.items)
Publishes Are (turns.End status) = ⊥

abbrev pub IsQuiet : Turn → Type 0
IsQuiet turn = turn ≡ turns.Quiet

-- nothing is said, and this is still the session
abbrev pub IsPassedOver : Session → Session → Turn → Type 0
IsPassedOver before after turn = (after ≡ before) × IsQuiet turn

-- messages that have this property are said, if the session is open
abbrev pub TellsWhileOpen : Phase → (Session → Session → List DocumentMessage → Type 0) → Session
    → Session → Turn → Type 0
TellsWhileOpen phase.Fresh IsSaid before after turn = IsPassedOver before after turn
TellsWhileOpen phase.Open IsSaid before after turn = Publishes (IsSaid before after) turn
TellsWhileOpen phase.ShutDown IsSaid before after turn = IsPassedOver before after turn

-- what the server says to a notification, whose text the session before has: those of a document lead to diagnostics, and
-- one ends the run
abbrev pub IsHeard : Files → Notification → Session → Session → Turn → Type 0
IsHeard disk (Text uri version text) before after turn =
    TellsWhileOpen before.phase (TellsText disk uri text) before after turn
IsHeard disk (Close uri) before after turn =
    TellsWhileOpen before.phase (TellsClosed disk uri) before after turn
IsHeard disk Exit before after turn =
    (after ≡ before) × (turn ≡ turns.End (exit_status before.phase))
IsHeard disk Other before after turn = IsPassedOver before after turn

abbrev pub IsStep : Files → Message → Session → Session → Turn → Type 0
IsStep disk (Invalid id) before after turn =
    (after ≡ before) × Says (error_json id error.NotRequest) turn
IsStep disk Response before after turn = IsPassedOver before after turn
IsStep disk (Asks id request) before after turn =
    (after ≡ after_request before request)
    × ((answer : Result Json ReplyError) × IsAnswer before disk request answer
    × Says (reply_json id answer) turn)
IsStep disk (Tells n) before after turn =
    IsHeard disk n (after_notification before n) after turn

-- the value of a body, or none if it is no JSON
abbrev pub IsValue : List ℕ → Option Json → Type 0
IsValue body None = IsUtf8 body → document body ≡ None
IsValue body (Some value) = IsUtf8 body × (document body ≡ Some value)

-- A body that is no JSON may have been the change of a text, so none is known after it.
abbrev pub IsNoJson : Session → Session → Turn → Type 0
IsNoJson before after turn =
    (after ≡ without_texts before) × Says (error_json null error.NotJson) turn

-- Memory ran out for the message. A text for which it ran out is not known.
abbrev pub IsShortStep : Message → Session → Session → Turn → Type 0
IsShortStep (Invalid id) before after turn = ⊥
IsShortStep Response before after turn = ⊥
IsShortStep (Asks id request) before after turn =
    (after ≡ before) × Says (error_json id error.OutOfMemory) turn
IsShortStep (Tells (Text uri version text)) before after turn =
    (after ≡ after_notification before (Text uri version None)) × IsQuiet turn
IsShortStep (Tells (Close uri)) before after turn =
    (after ≡ after_notification before (Close uri)) × IsQuiet turn
IsShortStep (Tells Exit) before after turn = ⊥
IsShortStep (Tells Other) before after turn = ⊥

-- A body for which there was no memory may have been the change of a text too.
abbrev pub IsUnreadBody : Session → Session → Turn → Type 0
IsUnreadBody before after turn =
    (after ≡ without_texts before) × Says (error_json null error.OutOfMemory) turn

-- a step of a message, or one for which memory ran out
abbrev pub IsStepOrShort : Files → Message → Session → Session → Turn → Type 0
IsStepOrShort disk message before after turn =
    IsStep disk message before after turn ⊎ IsShortStep message before after turn

abbrev pub IsStepOf : Files → Option Json → Session → Session → Turn → Type 0
IsStepOf disk None before after turn = IsNoJson before after turn
IsStepOf disk (Some value) before after turn =
    IsStepOrShort disk (message_of value) before after turn

-- THE STEP of a message that has this body, with these files on the disk
abbrev pub Steps : Files → List ℕ → Session → Session → Turn → Type 0
Steps disk body before after turn =
    IsUnreadBody before after turn
    ⊎ ((value : Option Json) × IsValue body value × IsStepOf disk value before after turn)
