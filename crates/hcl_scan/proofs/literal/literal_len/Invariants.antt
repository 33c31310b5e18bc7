use Rattle.std.proofs.Common.{◌-◌, ◌≤◌, length, take, drop}
use Rattle.std.specs.Prelude.{IsTrue}
use Rattle.hcl_tokens.specs.Spelling.{are_elements}
use Rattle.hcl_scan.proofs.literal.literal_len.Given as goal

abbrev pub invariant-loop-len : goal.invariant-loop-len
invariant-loop-len l = record { within : l.len ≤ length l.seen; elements : IsTrue (are_elements l.quoted 0 (take l.len l.seen) (drop l.len l.seen)) }

abbrev pub decreases-loop-len : goal.decreases-loop-len
decreases-loop-len l = length l.seen - l.len
