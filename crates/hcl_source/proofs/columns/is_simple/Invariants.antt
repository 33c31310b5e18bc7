use Rattle.std.proofs.Common.{◌≡◌, ◌&&◌, drop}
use Rattle.hcl_source.specs.Simple.{is_simple}
use Rattle.hcl_source.proofs.columns.is_simple.Given as goal

abbrev pub invariant-loop-byte : goal.invariant-loop-byte
invariant-loop-byte l = is_simple l.bytes ≡ (l.simple && is_simple (drop l.byte-index l.bytes))
