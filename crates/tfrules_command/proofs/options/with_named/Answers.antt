use Rattle.tfrules_command.proofs.AskedRuleLemmas.{not_named}
use Rattle.tfrules_command.proofs.options.with_named.Goals as goal

pub returns-in-None : goal.returns-in-None
returns-in-None c = λ names h. not_named names c.args.name.now c.in-None.ensures
