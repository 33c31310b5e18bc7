-- The steps of a call that receives.
use Rattle.std.specs.Prelude.{◌≡◌, ◌<◌, ℕ, ◌++◌, Bool, false, List, [], Option, Some, None, drop, length, take}
use Rattle.tfls_command.specs.Fronts.{front_of}
use Rattle.tfls_command.specs.Streams.{EndsOnly, Receives, is_failed_read}
use Rattle.tfls_command.specs.declared.front.Front.TheVariants as front
use Rattle.tfls_command.specs.declared.incoming.Received.{Received}
use Rattle.tfls_command.specs.declared.incoming.Received.TheVariants.{Message, End, Malformed, Failed, OutOfMemory}

-- the bytes from the one offset to the other are taken, with all before them
abbrev pub TakesMessage : List ℕ → List ℕ → ℕ → ℕ → Received → Type 0
TakesMessage old new from to (Message body) = (body.items ≡ drop from (take to old)) × (new ≡ drop to old)
TakesMessage old new from to End = ⊥
TakesMessage old new from to Malformed = ⊥
TakesMessage old new from to Failed = ⊥
TakesMessage old new from to OutOfMemory = new ≡ old

-- received without a read
abbrev pub NeedsNoRead : Received → Type 0
NeedsNoRead (Message body) = Unit {0}
NeedsNoRead End = ⊥
NeedsNoRead Malformed = Unit {0}
NeedsNoRead Failed = ⊥
NeedsNoRead OutOfMemory = Unit {0}

-- received because no bytes came
abbrev pub NeedsRead : Received → Type 0
NeedsRead (Message body) = ⊥
NeedsRead End = Unit {0}
NeedsRead Malformed = ⊥
NeedsRead Failed = Unit {0}
NeedsRead OutOfMemory = Unit {0}

-- nothing where what waits is the beginning of a message
abbrev pub Settles : List ℕ → List ℕ → Option Received → Type 0
Settles old new None = (front_of old ≡ front.Partial) × (new ≡ old)
Settles old new (Some received) = Receives old new received × NeedsNoRead received

-- bytes came after those that waited, or why none did
abbrev pub Fills : List ℕ → List ℕ → List ℕ → Option Received → Type 0
Fills old new bytes None = (new ≡ old ++ bytes) × (0 < length bytes)
Fills old new bytes (Some received) = (new ≡ old) × (bytes ≡ []) × NeedsRead received

abbrev pub FillsToEnd : Option Received → Option (List ℕ) → Type 0
FillsToEnd None left = Unit {0}
FillsToEnd (Some received) left = EndsOnly received left

abbrev pub is_failed_fill : Option Received → Bool
is_failed_fill None = false
is_failed_fill (Some received) = is_failed_read received
