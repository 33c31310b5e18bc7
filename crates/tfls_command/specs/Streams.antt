-- The messages of a stream, and what a call that receives one tells.
use Rattle.std.specs.Prelude.{◌≡◌, ◌<◌, ℕ, ◌++◌, Bool, true, false, List, [], ◌∷◌, Option, Some, length}
use Rattle.std.specs.Io.KnownBytes.{Consumes, IsAtEnd}
use Rattle.tfls_command.specs.Frames.{head_end, head_length, told_length}
use Rattle.tfls_command.specs.Fronts.{front_of}
use Rattle.tfls_command.specs.declared.front.Front.TheVariants as front
use Rattle.tfls_command.specs.declared.incoming.Received.{Received}
use Rattle.tfls_command.specs.declared.incoming.Received.TheVariants.{Message, End, Malformed, Failed, OutOfMemory}

-- the stream begins with a message of this body, and `rest` follows it
pub record Begins (stream body rest : List ℕ) : Type 0 where
  pub head : List ℕ
  pub whole : stream ≡ head ++ (head_end ++ (body ++ rest))
  -- there is no empty line sooner
  pub ended : head_length stream ≡ Some (length head)
  pub told : told_length head ≡ Some (length body)

-- the stream is these messages, one after another, and then a rest
abbrev pub Messages : List ℕ → List (List ℕ) → List ℕ → Type 0
Messages stream [] rest = stream ≡ rest
Messages stream (body ∷ bodies) rest =
    (more : List ℕ) × Begins stream body more × Messages more bodies rest

-- What is received of a stream that has come this far, and what waits of it then: after a message what follows it, and
-- otherwise all. If the input ended or a read failed, it is the beginning of a message at most.
abbrev pub Receives : List ℕ → List ℕ → Received → Type 0
Receives stream rest (Message body) = Begins stream body.items rest
Receives stream rest End = (front_of stream ≡ front.Partial) × (rest ≡ stream)
Receives stream rest Malformed = (front_of stream ≡ front.Malformed) × (rest ≡ stream)
Receives stream rest Failed = (front_of stream ≡ front.Partial) × (rest ≡ stream)
Receives stream rest OutOfMemory = rest ≡ stream

-- A call that receives: what its source had left before and after, what waited before and after, and what it received.
pub record IsReceived
    (old new : Option (List ℕ)) (waiting rest : List ℕ) (received : Received) : Type 0 where
  pub bytes : List ℕ  -- that it read
  pub read : Consumes old new bytes
  pub needed : 0 < length bytes → front_of waiting ≡ front.Partial
  pub receives : Receives (waiting ++ bytes) rest received

-- the input is said to end only where it does
abbrev pub EndsOnly : Received → Option (List ℕ) → Type 0
EndsOnly End left = IsAtEnd left
EndsOnly (Message body) left = Unit {0}
EndsOnly Malformed left = Unit {0}
EndsOnly Failed left = Unit {0}
EndsOnly OutOfMemory left = Unit {0}

-- a read failed
abbrev pub is_failed_read : Received → Bool
is_failed_read Failed = true
is_failed_read _ = false
