use Rattle.module_config.proofs.SettledLemmas.{by_default}
use Rattle.module_config.proofs.policy.own_rules.Goals as goal

pub returns-in-None : goal.returns-in-None
returns-in-None c = by_default c.args.own c.recommended.result c.in-None.is c.recommended.ensures
