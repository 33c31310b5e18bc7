use Rattle.hcl_scan.proofs.NumeralLemmas.{number_at}
use Rattle.hcl_scan.proofs.number.number_len.Goals as goal

pub returns-clause-found : goal.returns-clause-found
returns-clause-found c = number_at c.args.seen.now c.split_at.result.1.now c.split_at-2.result.1.now c.in-Some.whole c.fraction_len-fraction.result c.exponent_len.result c.split_at.ensures.back c.split_at-2.ensures.back c.in-Some.ensures.found c.fraction_len-fraction.ensures c.exponent_len.ensures
