use Rattle.std.proofs.Common.{arith}
use Rattle.std.specs.Char.{is_ascii_digit}
use Rattle.hcl_scan.proofs.LongestFrontLemmas.{run_found, run_none}
use Rattle.hcl_scan.proofs.number.digits_len.Goals as goal

pub returns-then-count-eq0-clause-none : goal.returns-then-count-eq0-clause-none
returns-then-count-eq0-clause-none c = run_none is_ascii_digit c.args.seen.now (omega arith)

pub returns-else-count-eq0-clause-found : goal.returns-else-count-eq0-clause-found
returns-else-count-eq0-clause-found c = run_found is_ascii_digit c.args.seen.now c.count_digits-count.result c.count_digits-count.ensures.count (omega arith)
