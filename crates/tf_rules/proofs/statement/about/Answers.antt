use Rattle.std.proofs.Common.{codes}
use Rattle.tf_rules.proofs.StatementLemmas.{told_by_name}
use Rattle.tf_rules.proofs.statement.about.Goals as goal

pub returns : goal.returns
returns c = told_by_name _ _ (codes " \"") _ _ c.args.rest.now c.before_name-front.ensures c.last_label-name.ensures
