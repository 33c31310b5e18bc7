use Rattle.std.proofs.Common.{◌≡◌, ◌≤◌, ◌+◌, ◌-◌, length, drop}
use Rattle.std.specs.List.{prefix_len}
use Rattle.hcl_scan.specs.Inner.Found.{is_ordinary}
use Rattle.hcl_scan.proofs.literal.ordinary_len.Given as goal

-- all bytes up to here pass
abbrev pub invariant-loop-len : goal.invariant-loop-len
invariant-loop-len l = record { within : l.len ≤ length l.seen; same : prefix_len is_ordinary l.seen ≡ l.len + prefix_len is_ordinary (drop l.len l.seen) }

abbrev pub decreases-loop-len : goal.decreases-loop-len
decreases-loop-len l = length l.seen - l.len
