use Rattle.std.proofs.Common.{◌≡◌, take, true}
use Rattle.std.specs.List.{list_all}
use Rattle.module_check.specs.Checks.{is_good_file}
use Rattle.module_check.proofs.state.are_good.Given as goal

abbrev pub invariant-loop-number : goal.invariant-loop-number
invariant-loop-number l = list_all is_good_file (take l.number l.states) ≡ true
