use Rattle.hcl_tokens.proofs.OneReadingLemmas.{OneKind, Nonempty}
use Rattle.hcl_scan.proofs.SpellingLemmas.{one_kind}
use Rattle.hcl_tokens.proofs.NonemptyLemmas.{nonempty}
use Rattle.hcl_scan.proofs.laws.one_kind.Goals as goal

pub returns-clause-one_kind : goal.returns-clause-one_kind
unfolding OneKind
returns-clause-one_kind c = one_kind

pub returns-clause-nonempty : goal.returns-clause-nonempty
unfolding Nonempty
returns-clause-nonempty c = nonempty
