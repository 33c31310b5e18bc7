use Rattle.std.proofs.Common.{inl, inr, subst}
use Rattle.tree_format.proofs.SomeRunLemmas.{IsRead, by_reading}
use Rattle.tree_format.proofs.laws.format_or_fault.Goals as goal

pub returns-in-Some : goal.returns-in-Some
returns-in-Some c =
    let text = c.in-Some.ensures.text in
    by_reading c.args.bytes.now text.1 (subst IsRead text.0 c.list_or_fault.ensures)

pub returns-in-None : goal.returns-in-None
returns-in-None c =
    let fault = c.in-None.ensures.fault in
    inr (fault.0, inl fault.1)
