use Rattle.std.proofs.Common.{◌-◌, length}
use Rattle.hcl_scan.proofs.IdentLemmas.{Continued}
use Rattle.hcl_scan.proofs.ident.continuing_len.Given as goal

abbrev pub invariant-loop-n : goal.invariant-loop-n
invariant-loop-n l = Continued l.text l.len

abbrev pub decreases-loop-n : goal.decreases-loop-n
decreases-loop-n l = length l.text - l.len
