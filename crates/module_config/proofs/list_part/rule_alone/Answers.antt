use Rattle.std.proofs.Common.{◌∙◌}
use Rattle.module_config.proofs.ListLemmas.{unnamed}
use Rattle.module_config.proofs.list_part.rule_alone.Goals as goal

pub returns-in-None : goal.returns-in-None
returns-in-None c = λ rule. c.none-in-None.ensures rule ∙ unnamed c.args.name.now rule c.in-None.ensures
