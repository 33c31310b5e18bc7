use Rattle.hcl_scan.proofs.FrontLemmas.{mark_at, mark_cut, some_mark}
use Rattle.hcl_scan.proofs.expression.next_in_expression.Goals as goal

pub returns-in-Mark-clause-found : goal.returns-in-Mark-clause-found
returns-in-Mark-clause-found c =
    some_mark c.args.around.after_dot c.args.around.inside_heredoc c.args.around.closes_sequence c.args.seen.now c.in-Mark.kind c.in-Mark.len (mark_at c.args.seen.now c.as_bytes.result.now c.front_of.result c.in-Mark.kind c.in-Mark.len c.as_bytes.ensures.value c.in-Mark.is c.front_of.ensures)

pub returns-in-Mark-clause-boundary : goal.returns-in-Mark-clause-boundary
returns-in-Mark-clause-boundary c =
    mark_cut c.args.seen.now c.in-Mark.kind c.in-Mark.len c.utf8.seen (mark_at c.args.seen.now c.as_bytes.result.now c.front_of.result c.in-Mark.kind c.in-Mark.len c.as_bytes.ensures.value c.in-Mark.is c.front_of.ensures)
