use Rattle.hcl_scan.proofs.ExpressionTextLemmas.{found, less_reading, less_found, formed_cut}
use Rattle.hcl_scan.proofs.TextCutLemmas.{heredoc_low}
use Rattle.hcl_scan.proofs.expression.opener_or_less.Goals as goal

pub returns-in-Some-clause-found : goal.returns-in-Some-clause-found
returns-in-Some-clause-found c = λ dot inside closes. found dot inside closes c.args.seen.now c.in-Some.len (less_reading dot inside closes) c.requires c.in-Some.ensures.found

pub returns-in-Some-clause-boundary : goal.returns-in-Some-clause-boundary
returns-in-Some-clause-boundary c = formed_cut c.args.seen.now c.in-Some.len c.utf8.seen heredoc_low c.in-Some.ensures.found

pub returns-in-None-clause-found : goal.returns-in-None-clause-found
returns-in-None-clause-found c = λ dot inside closes. less_found dot inside closes c.args.seen.now c.requires c.in-None.ensures.none
