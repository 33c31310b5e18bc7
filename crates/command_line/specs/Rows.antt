-- The row of a run, and how the run ends with it on its devices. Both programs end in this way. They differ in the name
-- that their messages have, and in the status if a device failed or memory ran out. Our own choice.
use Rattle.std.specs.Prelude.{◌≡◌, ◌⊎◌, ◌||◌, ◌≤◌, ◌<◌, ℕ, Bool, true, false, List, [], ◌∷◌, ◌++◌, Option, Result, String, MatchResult, codes, decimal, length, string_bytes, take, if◌then◌else◌}
use Rattle.std.specs.Io.KnownBytes.{Appends}
use Rattle.hcl_source.specs.Devices.{one_more}
use Rattle.hcl_source.specs.FaultTexts.{fault_text}
use Rattle.hcl_source.specs.declared.device.ByteSink.{Ghosts}
use Rattle.hcl_source.specs.declared.device.Flushes.{Flushes}
use Rattle.hcl_source.specs.declared.fault.Fault.{Fault}
use Rattle.command_line.specs.declared.streams.Streams.{Streams}

-- how the programs differ
pub record Program : Type 0 where
  pub name : List ℕ
  pub failure : ℕ  -- its status if a device failed or memory ran out

-- the texts that a run writes to standard output and to standard error, and its exit status
pub record Row : Type 0 where
  pub out : List ℕ
  pub err : List ℕ
  pub status : ℕ

-- nothing but a text on standard output
abbrev pub output_row : List ℕ → ℕ → Row
output_row text status = record { out = text; err = []; status = status }

-- nothing but a message on standard error
abbrev pub message_row : List ℕ → ℕ → Row
message_row text status = record { out = []; err = text; status = status }

abbrev pub line : List ℕ → List ℕ
line text = text ++ 10 ∷ []

-- `NAME: error: ` and the text after it
abbrev pub error : Program → List ℕ → List ℕ
error program rest = program.name ++ (codes ": error: " ++ rest)

-- `NAME: error: TEXT`
abbrev pub error_line : Program → List ℕ → List ℕ
error_line program text = error program (line text)

-- `LINE:COLUMN: TEXT`, to the end of the line
abbrev pub fault_words : Fault → List ℕ
fault_words fault =
    decimal fault.at.line
    ++ (codes ":" ++ (decimal fault.at.column ++ (codes ": " ++ line (fault_text fault.kind))))

abbrev pub write_failed : Program → List ℕ
write_failed program = error_line program (codes "write failed")

-- nothing but an error
abbrev pub fails_with : Program → List ℕ → Row
fails_with program text = message_row (error_line program text) program.failure

abbrev pub out_of_memory : Program → Row
out_of_memory program = fails_with program (codes "out of memory")

-- the row of a message, or, if there was no memory for its text, that for running out of memory
abbrev pub IsLineRow : {A E : Type 0} → Program → Result (String A) E → ℕ → Row → Type 0
IsLineRow program message status row =
    MatchResult message (λ text. row ≡ message_row (string_bytes text) status) (λ _. row
    ≡ out_of_memory program)

-- ---- devices

-- a writer before and after a run
pub record Writer : Type 0 where
  pub before : Option (List ℕ)  -- the bytes that it had taken, if it tells them
  pub after : Option (List ℕ)
  pub failed : Bool  -- a call of it failed
  pub flushed : Bool  -- all that it took has been flushed
  pub flushes_before : Flushes  -- how often it had been flushed
  pub flushes_after : Flushes

-- a device before and after a run, by the ghosts of its trait
abbrev pub writer : {D : Type 0} → Ghosts D → D → D → Writer
writer sink old new = record {
  before = sink.taken old;
  after = sink.taken new;
  failed = sink.failed new;
  flushed = sink.flushed new;
  flushes_before = sink.flushes old;
  flushes_after = sink.flushes new;
}

-- the two writers of a run, and its exit status
pub record End : Type 0 where
  pub out : Writer
  pub err : Writer
  pub status : ℕ

abbrev pub end_of : {O E : Type 0} → Ghosts O → O → O → Ghosts E → E → E → ℕ → End
end_of out out_old out_new err err_old err_new status =
    record { out = writer out out_old out_new; err = writer err err_old err_new; status = status }

-- the writers of a run's two streams, and its exit status
abbrev pub end_of_streams : {O E : Type 0} → Ghosts O → Ghosts E → Streams O E → Streams O E → ℕ
    → End
end_of_streams out err old new status = end_of out old.out new.out err old.err new.err status

-- a writer took the text, or, if it failed, a front of it
abbrev pub TookBy : Bool → Option (List ℕ) → Option (List ℕ) → List ℕ → Type 0
TookBy false before after text = Appends before after text
TookBy true before after text = (n : ℕ) × (n ≤ length text) × Appends before after (take n text)

abbrev pub Took : Writer → List ℕ → Type 0
Took w text = TookBy w.failed w.before w.after text

abbrev pub IsUnflushed : Writer → Type 0
IsUnflushed w = w.flushes_after ≡ w.flushes_before

-- the text for standard error
abbrev pub error_output : Program → Bool → Row → List ℕ
error_output program out_failed row = if out_failed then write_failed program else row.err

-- The flushes of a run that shows the row, with this message on standard error: one of standard output, after its text,
-- and none of standard error.
pub record IsFlushed (row : Row) (message : List ℕ) (end : End) : Type 0 where
  pub flush : end.out.failed ≡ false → 0 < length row.out
      → (end.out.flushed ≡ true) × (end.out.flushes_after ≡ one_more end.out.flushes_before)
  pub no_output : length row.out ≡ 0 → IsUnflushed end.out
  pub unflushed : end.err.failed ≡ false → 0 < length message → end.err.flushed ≡ false
  pub no_flush : IsUnflushed end.err

-- How a run ends that shows the row: each writer took its text, and standard error took the message of the failed write
-- if standard output failed; the status is that of a failure if a writer failed. A writer without a text is not called,
-- so it can't fail.
pub record Shows (program : Program) (row : Row) (end : End) : Type 0 where
  pub output : Took end.out row.out
  pub message : Took end.err (error_output program end.out.failed row)
  pub exit : end.status ≡ (if end.out.failed || end.err.failed then program.failure else row.status)
  pub no_output : length row.out ≡ 0 → end.out.failed ≡ false
  pub no_message : length (error_output program end.out.failed row) ≡ 0 → end.err.failed ≡ false
  pub flushes : IsFlushed row (error_output program end.out.failed row) end

-- a run shows a row that has the property
abbrev pub ShowsOne : Program → (Row → Type 0) → End → Type 0
ShowsOne program P end = (row : Row) × P row × Shows program row end

-- the row is that for running out of memory, or has the property
abbrev pub OrOutOfMemory : Program → (Row → Type 0) → Row → Type 0
OrOutOfMemory program P row = (row ≡ out_of_memory program) ⊎ P row

-- a run shows a row that has the property, or that for running out of memory
abbrev pub ShowsIfMemory : Program → (Row → Type 0) → End → Type 0
ShowsIfMemory program P end = ShowsOne program (OrOutOfMemory program P) end
