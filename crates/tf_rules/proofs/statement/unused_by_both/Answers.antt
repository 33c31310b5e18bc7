use Rattle.std.proofs.Common.{◌++◌, codes, refl}
use Rattle.tf_rules.proofs.StatementLemmas.{told_by_name}
use Rattle.tf_rules.proofs.statement.unused_by_both.Goals as goal

pub returns : goal.returns
returns c =
    told_by_name _ _ (codes " \"") c.args.first.now c.args.first.now (codes "\" \"" ++ (c.args.second.now ++ codes "\" is declared but not used")) c.before_name-front.ensures refl
