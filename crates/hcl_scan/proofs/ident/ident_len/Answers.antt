use Rattle.hcl_scan.proofs.IdentLemmas.{ident_found, ident_none}
use Rattle.hcl_scan.proofs.ident.ident_len.Goals as goal

pub returns-then-begins_ident-clause-found : goal.returns-then-begins_ident-clause-found
returns-then-begins_ident-clause-found c =
    ident_found c.args.text.now c.continuing_len.result c.utf8.text (c.begins_ident.ensures.yes c.if-begins_ident.true)
    (record { boundary = c.continuing_len.ensures.boundary; continuing = c.continuing_len.ensures.continuing }) c.continuing_len.ensures.stops

pub returns-else-begins_ident-clause-none : goal.returns-else-begins_ident-clause-none
returns-else-begins_ident-clause-none c = ident_none c.args.text.now (c.begins_ident.ensures.no c.if-begins_ident.false)
