use Rattle.tfrules_command.proofs.EndRowLemmas.{help_shown}
use Rattle.tfrules_command.proofs.run.tell_usage.Goals as goal

pub returns-in-Help : goal.returns-in-Help
returns-in-Help g c = help_shown _ _ _ c.in-Help.is c.linter.ensures c.deliver.ensures
