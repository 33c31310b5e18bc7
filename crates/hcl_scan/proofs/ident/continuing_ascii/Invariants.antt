use Rattle.std.proofs.Common.{◌≡◌, ◌≤◌, ◌+◌, ◌-◌, length, drop}
use Rattle.std.specs.List.{prefix_len}
use Rattle.hcl_scan.specs.Inner.Found.{continues_ascii}
use Rattle.hcl_scan.proofs.ident.continuing_ascii.Given as goal

-- all bytes up to here pass
abbrev pub invariant-loop-len : goal.invariant-loop-len
invariant-loop-len l = record { within : l.len ≤ length l.bytes; same : prefix_len continues_ascii l.bytes ≡ l.len + prefix_len continues_ascii (drop l.len l.bytes) }

abbrev pub decreases-loop-len : goal.decreases-loop-len
decreases-loop-len l = length l.bytes - l.len
