-- The part of a text that has gone out, to the sink or into the buffer before it.
use Rattle.std.specs.Prelude.{◌≡◌, ◌<◌, ◌≤◌, ◌+◌, ◌-◌, ◌++◌, ℕ, List, Option, length, take, drop, replicate}
use Rattle.std.specs.Io.KnownBytes.{Appends}
use Rattle.hcl_source.specs.declared.device.WriteFault.{WriteFault}
use Rattle.hcl_layout.specs.declared.buffer.Buffer.{Buffer}
use Rattle.hcl_layout.specs.declared.buffer.Stretch.{Stretch}

-- the bytes waiting in the buffer
abbrev pub buffered_bytes : Buffer → List ℕ
buffered_bytes b = take b.len b.bytes

-- a front of the text: a part is in the sink, the rest in the buffer
pub record Out (base now : Option (List ℕ)) (b : Buffer) (front : List ℕ) : Type 0 where
  pub sent : List ℕ
  pub whole : front ≡ sent ++ buffered_bytes b
  pub count : b.sent ≡ length sent
  pub out : Appends base now sent

-- a write failed within the front
abbrev pub CutShort : Option (List ℕ) → Option (List ℕ) → List ℕ → WriteFault → Type 0
CutShort base now front fault = (fault.written < length front) × Appends base now (take fault.written front)

-- whatever front was out before, the text goes out after it
abbrev pub Pushes : Option (List ℕ) → Option (List ℕ) → Buffer → Buffer → List ℕ → Type 0
Pushes now new old b text = (base : Option (List ℕ)) (front : List ℕ) → Out base now old front → Out base new b (front ++ text)

-- a write failed within such a front and the text
abbrev pub Fails : Option (List ℕ) → Option (List ℕ) → Buffer → List ℕ → WriteFault → Type 0
Fails now new old text fault = (base : Option (List ℕ)) (front : List ℕ) → Out base now old front → CutShort base new (front ++ text) fault

-- a front that was out is still out, in the sink or in the buffer
abbrev pub Keeps : Option (List ℕ) → Option (List ℕ) → Buffer → Buffer → Type 0
Keeps now new old b = (base : Option (List ℕ)) (front : List ℕ) → Out base now old front → Out base new b front

-- whatever front was out before, a write failed after a part of it
abbrev pub FailsBefore : Option (List ℕ) → Option (List ℕ) → Buffer → WriteFault → Type 0
FailsBefore now new old fault = (base : Option (List ℕ)) (front : List ℕ) → Out base now old front → CutShort base new front fault

-- whatever front was out before, the text is in the sink after it, and nothing waits
abbrev pub Finishes : Option (List ℕ) → Option (List ℕ) → Buffer → List ℕ → Type 0
Finishes now new old text = (base : Option (List ℕ)) (front : List ℕ) → Out base now old front → Appends base new (front ++ text)

-- the print of a stretch of the source
abbrev pub stretch_text : List ℕ → Stretch → List ℕ
stretch_text source s = replicate s.gap 32 ++ take (s.end - s.start) (drop s.start source)

-- a stretch of the source lies in it
abbrev pub Lies : List ℕ → Stretch → Type 0
Lies source s = (s.start ≤ s.end) × (s.end ≤ length source)

abbrev pub stretch_len : Stretch → ℕ
stretch_len s = s.gap + (s.end - s.start)

-- this many bytes went out before, into the sink or into the buffer
abbrev pub passed_count : Buffer → ℕ
passed_count b = b.sent + b.len

-- a block begins as a stretch does
abbrev pub BeginsWith : List ℕ → Stretch → List ℕ → Type 0
BeginsWith source s block = take (s.end - s.start) block ≡ take (s.end - s.start) (drop s.start source)
