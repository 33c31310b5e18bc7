use Rattle.std.proofs.Common.{◌≡◌, drop}
use Rattle.std.specs.List.{list_any}
use Rattle.tfrules_command.specs.Report.{weighs}
use Rattle.tfrules_command.proofs.report.has_severe.Given as goal

abbrev pub invariant-loop-number : goal.invariant-loop-number
invariant-loop-number l = list_any (weighs l.minimum) (drop l.number l.issues) ≡ list_any (weighs l.minimum) l.issues
