-- Messages that withdraw what was told.
use Rattle.std.specs.Prelude.{◌≡◌, ℕ, List, map}
use Rattle.editor_modules.specs.Messages.{DocumentMessage, message_of, message_seen}
use Rattle.editor_modules.specs.Told.{withdrawn}
use Rattle.editor_modules.specs.declared.message.ToldMessage.{ToldMessage}

-- the messages that withdraw these documents
abbrev pub withdrawals_of : List (List ℕ) → List DocumentMessage
withdrawals_of uris = map (λ uri. message_of (withdrawn uri)) uris

abbrev pub Withdraws : List (List ℕ) → List ToldMessage → Type 0
Withdraws uris messages = map message_seen messages ≡ withdrawals_of uris
