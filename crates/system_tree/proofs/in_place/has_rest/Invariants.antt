use Rattle.std.proofs.Common.{◌≤◌, length}
use Rattle.system_tree.proofs.in_place.has_rest.Given as goal

abbrev pub invariant-loop : goal.invariant-loop
invariant-loop l = l.at ≤ length l.bytes
