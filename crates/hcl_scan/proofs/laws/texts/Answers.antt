use Rattle.hcl_scan.proofs.TokenTextLemmas.{texts_are}
use Rattle.hcl_scan.proofs.ByteOrderMarkLemmas.{unmarked}
use Rattle.hcl_scan.proofs.laws.texts.Goals as goal

pub returns-clause-utf8 : goal.returns-clause-utf8
returns-clause-utf8 c = texts_are

pub returns-clause-unmarked : goal.returns-clause-unmarked
returns-clause-unmarked c = unmarked
