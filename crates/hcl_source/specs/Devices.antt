-- The meaning of devices' answers: our own words for our own devices.
use Rattle.std.specs.Prelude.{◌≡◌, ℕ, ◌<◌, Option, Some, None, Result, Ok, Err}
use Rattle.hcl_source.specs.declared.device.Flushes.{Flushes}
use Rattle.hcl_source.specs.declared.device.Flushes.TheVariants.{Never, Once, Often}

-- a write took a byte or more
abbrev pub TookSome : {E : Type 0} → Result ℕ E → Type 0
TookSome (Ok n) = 0 < n
TookSome (Err e) = ⊥

-- if a device tells something, it is this
abbrev pub Tells : {X : Type 0} → Option X → X → Type 0
Tells None x = Unit {0}
Tells (Some told) x = told ≡ x

-- the count of a sink's flushes, after one more flush
abbrev pub one_more : Flushes → Flushes
one_more Never = Once
one_more Once = Often
one_more Often = Often
