use Rattle.std.proofs.Common.{arith}
use Rattle.hcl_tokens.specs.Spelling.{is_blank}
use Rattle.hcl_scan.proofs.LongestFrontLemmas.{run_found, run_none}
use Rattle.hcl_scan.proofs.text.blanks_len.Goals as goal

pub returns-then-count-eq0-clause-none : goal.returns-then-count-eq0-clause-none
returns-then-count-eq0-clause-none c = run_none is_blank c.args.seen.now (omega arith)

pub returns-else-count-eq0-clause-found : goal.returns-else-count-eq0-clause-found
returns-else-count-eq0-clause-found c = run_found is_blank c.args.seen.now c.count_blanks-count.result c.count_blanks-count.ensures.count (omega arith)
