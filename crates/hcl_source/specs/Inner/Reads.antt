-- The end of a reading, as the code has it.
use Rattle.std.specs.Prelude.{Bool, true, false, Result, Err}
use Rattle.hcl_source.specs.declared.device.ReadError.{ReadError}
use Rattle.hcl_source.specs.declared.device.ReadError.TheVariants.{Failed}

-- a reading ended because a read failed
abbrev pub is_read_failed : {X : Type 0} → Result X ReadError → Bool
is_read_failed (Err Failed) = true
is_read_failed _ = false
