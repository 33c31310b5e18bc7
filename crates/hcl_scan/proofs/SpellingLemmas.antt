-- No text has two kinds at one place.
use Rattle.hcl_tokens.proofs.OneReadingLemmas.{OneKind}
use Rattle.hcl_scan.proofs.AllContextLemmas as places
use Rattle.hcl_scan.proofs.ExpressionLawLemmas.{one_expression}

pub one_kind : OneKind
one_kind = places.one_kind one_expression
