-- THE RUN of the server over the messages of its input.
use Rattle.std.specs.Prelude.{◌≡◌, ℕ, Bool, true, List, [], ◌∷◌, ◌++◌, Option, flat_map, map}
use Rattle.std.specs.Io.KnownBytes.{Consumes, IsAtEnd}
use Rattle.file_tree.specs.Files.{Files}
use Rattle.command_line.specs.Rows.{Took, Writer}
use Rattle.editor_session.specs.Sessions.{Session, new_session}
use Rattle.editor_session.specs.Steps.{Steps}
use Rattle.editor_session.specs.declared.turn.Turn.{Turn}
use Rattle.editor_session.specs.declared.turn.Turn.TheVariants as turn
use Rattle.tfls_command.specs.Frames.{frame}
use Rattle.tfls_command.specs.Fronts.{front_of}
use Rattle.tfls_command.specs.Streams.{Messages}
use Rattle.tfls_command.specs.declared.front.Front.TheVariants.{Partial, Malformed}
use Rattle.tfls_command.specs.declared.ending.Ending.{Ending}
use Rattle.tfls_command.specs.declared.ending.Ending.TheVariants as ending

-- ---- messages

-- no message asked for the end
abbrev pub IsUnasked : Ending → Type 0
IsUnasked (ending.Exit status) = ⊥
IsUnasked ending.InputEnded = Unit {0}
IsUnasked ending.Malformed = Unit {0}
IsUnasked ending.ReadFailed = Unit {0}
IsUnasked ending.WriteFailed = Unit {0}
IsUnasked ending.OutOfMemory = Unit {0}

-- frames of these bodies, one after another
abbrev pub frames : List (List ℕ) → List ℕ
frames bodies = flat_map frame bodies

-- what a message leads to, and then the messages after it
abbrev pub LeadsOn : Turn → (List ℕ → Ending → Type 0) → List (List ℕ) → List ℕ → Ending → Type 0
LeadsOn turn.Quiet rest bodies out end = rest out end
LeadsOn (turn.Say body) rest bodies out end =
    (more : List ℕ) × (out ≡ frame body.items ++ more) × rest more end
LeadsOn (turn.Publish messages) rest bodies out end =
    (more : List ℕ)
    × (out ≡ frames (map (λ message. message.body.items) messages.items) ++ more)
    × rest more end
LeadsOn (turn.End status) rest bodies out end =
    (bodies ≡ []) × (out ≡ []) × (end ≡ ending.Exit status)

-- these messages in turn, from a session on, with these files on the disk: what goes out, and how the run ends
abbrev pub Runs : Files → Session → List (List ℕ) → List ℕ → Ending → Type 0
Runs disk s [] out end = (out ≡ []) × IsUnasked end
Runs disk s (body ∷ bodies) out end =
    (t : Session) × (turn : Turn) × Steps disk body s t turn
    × LeadsOn turn (Runs disk t bodies) bodies out end

-- ---- devices

-- What an ending tells of the devices: of what is left of the input after the messages, `rest` was read. A run may also
-- end because memory ran out.
abbrev pub HasEnded : Ending → List ℕ → Option (List ℕ) → Bool → Bool → Type 0
HasEnded (ending.Exit status) rest left read_failed write_failed = Unit {0}
HasEnded ending.InputEnded rest left read_failed write_failed =
    (front_of rest ≡ Partial) × IsAtEnd left
HasEnded ending.Malformed rest left read_failed write_failed = front_of rest ≡ Malformed
HasEnded ending.ReadFailed rest left read_failed write_failed = read_failed ≡ true
HasEnded ending.WriteFailed rest left read_failed write_failed = write_failed ≡ true
HasEnded ending.OutOfMemory rest left read_failed write_failed = Unit {0}

-- how the server ran with these files on the disk: what its input had left before and after, whether a read failed, and
-- its output
pub record HasServed
    (disk : Files) (old left : Option (List ℕ)) (read_failed : Bool) (out : Writer) (end : Ending)
    : Type 0 where
  pub bytes : List ℕ  -- that were read
  pub read : Consumes old left bytes
  pub bodies : List (List ℕ)  -- of the messages that were taken
  pub rest : List ℕ
  pub messages : Messages bytes bodies rest
  pub text : List ℕ  -- for standard output
  pub runs : Runs disk new_session bodies text end
  pub took : Took out text
  pub ended : HasEnded end rest left read_failed out.failed
