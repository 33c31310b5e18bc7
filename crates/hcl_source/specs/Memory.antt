-- Devices in memory, for tests: how many bytes a call moves, and which call fails. Our own choice.
use Rattle.std.specs.Prelude.{ℕ, ◌-◌, ◌==◌, ◌||◌, ◌&&◌, Bool, false, not, List, length, min, Option, Some, None}
use Rattle.hcl_source.specs.declared.device.Flushes.{Flushes}

-- A source in memory: the remaining bytes; the most that a read gives; the number of reads that succeed before the one
-- that fails, if one is to fail; and whether one has failed.
pub record Giving : Type 0 where
  pub rest : List ℕ
  pub most : ℕ
  pub good_reads : Option ℕ
  pub has_failed : Bool

-- A sink in memory: the bytes that it took; the most that a write takes; the number of writes that succeed before the
-- one that fails, if one is to fail; whether a flush is to fail; whether a call has failed; whether all taken bytes
-- have been flushed; and how often it was flushed.
pub record Taking : Type 0 where
  pub bytes : List ℕ
  pub most : ℕ
  pub good_writes : Option ℕ
  pub flush_fails : Bool
  pub has_failed : Bool
  pub is_flushed : Bool
  pub flushes : Flushes

-- the most bytes that a sink takes
abbrev pub sink_room : ℕ
sink_room = 4_096

-- no good call remains before the one that fails
abbrev pub is_due : Option ℕ → Bool
is_due None = false
is_due (Some good) = good == 0

-- the good calls that remain after one of them
abbrev pub one_less : Option ℕ → Option ℕ
one_less None = None
one_less (Some good) = Some (good - 1)

-- how many bytes a good read gives for this much room
abbrev pub read_len : Giving → ℕ → ℕ
read_len s room = min s.most (min room (length s.rest))

-- how many of the bytes a good write takes
abbrev pub write_len : Taking → List ℕ → ℕ
write_len s bytes = min s.most (min (length bytes) (sink_room - length s.bytes))

-- a write fails if it is the one that is to fail, or if there are bytes and it can take none
abbrev pub write_fails : Taking → List ℕ → Bool
write_fails s bytes = is_due s.good_writes || (not (length bytes == 0) && write_len s bytes == 0)
