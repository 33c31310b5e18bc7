use Rattle.std.proofs.Common.{sym, ◌∙◌}
use Rattle.hcl_scan.proofs.IdentLemmas.{starts_found, starts_none}
use Rattle.hcl_scan.proofs.ident.begins_ident.Goals as goal

pub returns-then-bytes-lt128-clause-yes : goal.returns-then-bytes-lt128-clause-yes
returns-then-bytes-lt128-clause-yes c =
    starts_found c.args.text.now c.as_bytes-bytes.result.now c.as_bytes-bytes.ensures.value (sym c.is_empty.ensures ∙ c.if-is_empty.false) c.if-bytes-lt128.true c.starts_ascii.result c.starts_ascii.ensures

pub returns-then-bytes-lt128-clause-no : goal.returns-then-bytes-lt128-clause-no
returns-then-bytes-lt128-clause-no c =
    starts_none c.args.text.now c.as_bytes-bytes.result.now c.as_bytes-bytes.ensures.value (sym c.is_empty.ensures ∙ c.if-is_empty.false) c.if-bytes-lt128.true c.starts_ascii.result c.starts_ascii.ensures
