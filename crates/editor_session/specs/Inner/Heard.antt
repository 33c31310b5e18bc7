-- The messages of a notification as the code has them.
use Rattle.std.specs.Prelude.{List, Vec, map}
use Rattle.editor_modules.specs.Messages.{AreMessages, DocumentMessage, message_seen}
use Rattle.editor_modules.specs.Told.{ToldDocument}
use Rattle.editor_modules.specs.declared.message.ToldMessage.{ToldMessage}
use Rattle.editor_session.specs.Sessions.{Session}

-- these messages have this property
abbrev pub Have : {Z : Type 0} → (List DocumentMessage → Type 0) → Vec ToldMessage Z → Type 0
Have Are messages = Are (map message_seen messages.items)

-- the same of these messages and documents that are told before them, whichever the first messages tell
abbrev pub TellsAfter : {Z : Type 0} → (List ToldDocument → Session → List DocumentMessage → Type 0) → List ToldMessage → Session → Vec ToldMessage Z → Type 0
TellsAfter Tells first after messages = (told : List ToldDocument) → AreMessages told first → Tells told after (map message_seen messages.items)
