use Rattle.tfrules_command.proofs.StatusLemmas.{same_status}
use Rattle.tfrules_command.proofs.laws.status_by_rules.Goals as goal

pub returns : goal.returns
returns c = same_status
