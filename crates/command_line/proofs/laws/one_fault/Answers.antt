use Rattle.command_line.proofs.OneFaultLemmas.{one_fault}
use Rattle.command_line.proofs.laws.one_fault.Goals as goal

pub returns : goal.returns
returns c = one_fault
