-- THE SESSION of an editor with the server, and what a message makes of it (Language Server Protocol 3.17, "Server
-- lifecycle" and "Text Document Synchronization").
use Rattle.std.specs.Prelude.{ℕ, Bool, true, false, List, [], Option, Some, None}
use Rattle.open_files.specs.OpenTexts.{OpenText, with_open_text, without}
use Rattle.text_places.specs.declared.place.Units.{Units}
use Rattle.text_places.specs.declared.place.Units.TheVariants.{Utf16}
use Rattle.editor_messages.specs.Messages.{Notification, Request, Initialize, Shutdown, Text, Close, Exit, Other}
use Rattle.editor_messages.specs.declared.message.Abilities.{Abilities}
use Rattle.editor_modules.specs.Shown.{ShownModule}
use Rattle.editor_session.specs.declared.phase.Phase.{Phase}
use Rattle.editor_session.specs.declared.phase.Phase.TheVariants as phase

pub record Session : Type 0 where
  pub phase : Phase
  -- in which places are counted
  pub units : Units
  -- whether the editor takes edits for a version of a document
  pub takes_versions : Bool
  -- the documents whose texts are known, the newest first
  pub documents : List OpenText
  -- whether the text of a document was lost that may still be open
  pub has_lost : Bool
  -- what the editor shows of modules
  pub shown : List ShownModule

-- before the first message
abbrev pub new_session : Session
new_session =
    record {
      phase = phase.Fresh;
      units = Utf16;
      takes_versions = false;
      documents = [];
      has_lost = false;
      shown = [];
    }

-- ---- texts

-- the document that has this URI has this version and text now, or its text is lost
abbrev pub with_text : List ℕ → Option ℕ → Option (List ℕ) → Session → Session
with_text uri version (Some text) s =
    record s { documents = with_open_text uri version text s.documents }
with_text uri version None s =
    record s { documents = without uri s.documents; has_lost = true }

-- the document is closed
abbrev pub with_closed : List ℕ → Session → Session
with_closed uri s = record s { documents = without uri s.documents }

-- all texts are lost
abbrev pub without_texts : Session → Session
without_texts s = record s { documents = []; has_lost = true }

-- ---- requests

-- the session that an editor with these abilities has begun
abbrev pub after_initialize : Abilities → Session → Phase → Session
after_initialize abilities s phase.Fresh =
    record s {
      phase = phase.Open;
      units = abilities.units;
      takes_versions = abilities.takes_versions;
    }
after_initialize abilities s phase.Open = s
after_initialize abilities s phase.ShutDown = s

abbrev pub after_shutdown : Session → Phase → Session
after_shutdown s phase.Fresh = s
after_shutdown s phase.Open = record s { phase = phase.ShutDown }
after_shutdown s phase.ShutDown = s

-- the session after a request
abbrev pub after_request : Session → Request → Session
after_request s (Initialize abilities) = after_initialize abilities s s.phase
after_request s Shutdown = after_shutdown s s.phase
after_request s _ = s

-- ---- notifications

-- a session, or in its place the second one if it is open
abbrev pub while_open : Session → Session → Phase → Session
while_open s t phase.Fresh = s
while_open s t phase.Open = t
while_open s t phase.ShutDown = s

-- the session after a notification
abbrev pub after_notification : Session → Notification → Session
after_notification s (Text uri version text) =
    while_open s (with_text uri version text s) s.phase
after_notification s (Close uri) = while_open s (with_closed uri s) s.phase
after_notification s Exit = s
after_notification s Other = s

-- the status of a run that ends in this phase, as the protocol asks
abbrev pub exit_status : Phase → ℕ
exit_status phase.Fresh = 1
exit_status phase.Open = 1
exit_status phase.ShutDown = 0
