use Rattle.std.proofs.Common.{◌≡◌, ◌≤◌, ◌+◌, ◌-◌, ◌==◌, not, length, drop}
use Rattle.std.specs.List.{prefix_len}
use Rattle.hcl_scan.proofs.text.line_len.Given as goal

-- all bytes up to here pass
abbrev pub invariant-loop-len : goal.invariant-loop-len
invariant-loop-len l = record { within : l.len ≤ length l.seen; same : prefix_len (λ b. not (b == 10)) l.seen ≡ l.len + prefix_len (λ b. not (b == 10)) (drop l.len l.seen) }

abbrev pub decreases-loop-len : goal.decreases-loop-len
decreases-loop-len l = length l.seen - l.len
