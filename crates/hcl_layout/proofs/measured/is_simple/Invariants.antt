use Rattle.std.proofs.Common.{◌≡◌, ◌&&◌, drop, not}
use Rattle.std.specs.Prelude.{nat_lt}
use Rattle.hcl_layout.specs.Inner.Simple.{is_simple}
use Rattle.hcl_layout.proofs.measured.is_simple.Given as goal

abbrev pub invariant-loop-byte : goal.invariant-loop-byte
invariant-loop-byte l = is_simple l.bytes ≡ ((nat_lt l.highest 128 && not l.returns) && is_simple (drop l.byte-index l.bytes))
