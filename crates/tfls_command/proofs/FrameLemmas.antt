-- Frames of messages in turn.
use Rattle.std.proofs.Common.{◌≡◌, ◌∙◌, ◌++◌, ◌+◌, ◌<◌, ℕ, List, ap, drop, get_or, length, map, sym}
use Rattle.command_line.proofs.ListCutLemmas.{from_here}
use Rattle.editor_modules.specs.declared.message.ToldMessage.{ToldMessage}
use Rattle.tfls_command.specs.Frames.{frame}
use Rattle.tfls_command.specs.Runs.{frames}

-- the frames from a message on are its own and those after it
pub frame_here : (messages : List ToldMessage) (i : ℕ) (message : ToldMessage) (text : List ℕ) → i < length messages → message ≡ get_or messages i message → text ≡ message.body.items
    → frames (map (λ m. m.body.items) (drop i messages)) ≡ frame text ++ frames (map (λ m. m.body.items) (drop (i + 1) messages))
frame_here messages i message text lt is value =
    ap (λ l. frames (map (λ m. m.body.items) l)) (from_here messages i message lt is) ∙ ap (λ t. frame t ++ frames (map (λ m. m.body.items) (drop (i + 1) messages))) (sym value)
