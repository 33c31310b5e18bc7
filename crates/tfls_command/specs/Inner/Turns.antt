-- One message of a run.
use Rattle.std.specs.Prelude.{◌≡◌, ℕ, Bool, true, false, List, [], ◌∷◌, ◌++◌, Option, Some, None, map}
use Rattle.std.specs.Io.KnownBytes.{Consumes}
use Rattle.file_tree.specs.Files.{Files}
use Rattle.command_line.specs.Rows.{Took, Writer}
use Rattle.editor_session.specs.Sessions.{Session}
use Rattle.editor_session.specs.declared.turn.Turn.{Turn}
use Rattle.editor_session.specs.declared.turn.Turn.TheVariants as turn
use Rattle.tfls_command.specs.Frames.{frame}
use Rattle.tfls_command.specs.Streams.{Begins, Messages}
use Rattle.tfls_command.specs.Runs.{HasEnded, Runs, frames}
use Rattle.tfls_command.specs.declared.ending.Ending.{Ending}
use Rattle.tfls_command.specs.declared.ending.Ending.TheVariants as ending

-- what goes out for a turn
abbrev pub turn_text : Turn → List ℕ
turn_text turn.Quiet = []
turn_text (turn.Say body) = frame body.items
turn_text (turn.Publish messages) = frames (map (λ message. message.body.items) messages.items)
turn_text (turn.End status) = []

-- how the run ends with a turn, if it does, by whether a write failed
abbrev pub EndsTurn : Turn → Bool → Option Ending → Type 0
EndsTurn turn.Quiet failed end = (end ≡ None) × (failed ≡ false)
EndsTurn (turn.Say body) false end = end ≡ None
EndsTurn (turn.Say body) true end = end ≡ Some ending.WriteFailed
EndsTurn (turn.Publish messages) false end = end ≡ None
EndsTurn (turn.Publish messages) true end = end ≡ Some ending.WriteFailed
EndsTurn (turn.End status) failed end = end ≡ Some (ending.Exit status)

abbrev pub IsSent : Turn → Writer → Option Ending → Type 0
IsSent turn out end = Took out (turn_text turn) × EndsTurn turn out.failed end

-- a message is taken, and the run goes on with those after it
pub record GoesOn (disk : Files) (waiting bytes rest text : List ℕ) (before after : Session) : Type 0 where
  pub body : List ℕ
  pub begins : Begins (waiting ++ bytes) body rest
  pub goes : (bodies : List (List ℕ)) (more : List ℕ) (end : Ending) → Runs disk after bodies more end → Runs disk before (body ∷ bodies) (text ++ more) end

-- the run ends, with a message or without one
pub record EndsSo (disk : Files) (left : Option (List ℕ)) (read_failed write_failed : Bool) (waiting bytes text : List ℕ) (before : Session) (end : Ending) : Type 0 where
  pub bodies : List (List ℕ)
  pub last : List ℕ
  pub messages : Messages (waiting ++ bytes) bodies last
  pub runs : Runs disk before bodies text end
  pub ended : HasEnded end last left read_failed write_failed

abbrev pub TakenBy : Files → Option Ending → Option (List ℕ) → Bool → Bool → List ℕ → List ℕ → List ℕ → List ℕ → Session → Session → Type 0
TakenBy disk None left read_failed write_failed waiting bytes rest text before after = GoesOn disk waiting bytes rest text before after
TakenBy disk (Some end) left read_failed write_failed waiting bytes rest text before after = EndsSo disk left read_failed write_failed waiting bytes text before end

-- a call that takes a turn
pub record TakesTurn (disk : Files) (old left : Option (List ℕ)) (read_failed : Bool) (waiting rest : List ℕ) (before after : Session) (out : Writer) (end : Option Ending) : Type 0 where
  pub bytes : List ℕ
  pub read : Consumes old left bytes
  pub text : List ℕ
  pub took : Took out text
  pub taken : TakenBy disk end left read_failed out.failed waiting bytes rest text before after
