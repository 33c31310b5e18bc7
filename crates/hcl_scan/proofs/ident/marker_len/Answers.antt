use Rattle.std.proofs.Common.{ap, ◌∙◌, drop}
use Rattle.hcl_scan.proofs.HeredocOpenerLemmas.{marker_found, marker_none}
use Rattle.hcl_scan.proofs.ident.marker_len.Goals as goal

pub returns-in-Some-newline_len-clause-found : goal.returns-in-Some-newline_len-clause-found
returns-in-Some-newline_len-clause-found c =
    marker_found c.args.seen.now c.split_at.result.1.now c.in-Some.name c.in-Some-newline_len.end (c.split_at.ensures.back ∙ ap (drop c.in-Some.name) c.as_bytes.ensures.value) c.in-Some.ensures.found c.in-Some-newline_len.ensures.found

pub returns-in-None-clause-none : goal.returns-in-None-clause-none
returns-in-None-clause-none c =
    marker_none c.args.seen.now c.split_at.result.1.now c.in-Some.name (c.split_at.ensures.back ∙ ap (drop c.in-Some.name) c.as_bytes.ensures.value) c.in-Some.ensures.found c.in-None.ensures.none
