-- The law of the texts of expressions, in the form that all places use.
use Rattle.hcl_scan.proofs.AllContextLemmas.{OneExpression}
use Rattle.hcl_scan.proofs.OneKindLemmas.{expression_one_kind}

pub one_expression : OneExpression
unfolding OneExpression
one_expression = expression_one_kind
