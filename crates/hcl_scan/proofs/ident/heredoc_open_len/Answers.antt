use Rattle.std.proofs.Common.{◌≡◌, ℕ, ◌<◌, ap, ◌∙◌, arith}
use Rattle.hcl_scan.specs.Inner.Found.{heredoc_mark_len}
use Rattle.hcl_scan.proofs.HeredocOpenerLemmas.{mark_boundary, opener_found, opener_none}
use Rattle.hcl_scan.proofs.ident.heredoc_open_len.Goals as goal

some_of : (n : ℕ) → (n ≡ 0 → ⊥) → 0 < n
some_of n h = omega arith

pub range_from-requires : goal.range_from-requires
range_from-requires c = mark_boundary c.args.seen.now c.heredoc_mark_len-mark.result c.utf8.seen (c.heredoc_mark_len-mark.ensures ∙ ap heredoc_mark_len c.as_bytes.ensures.value)

pub returns-in-Some-clause-found : goal.returns-in-Some-clause-found
returns-in-Some-clause-found c =
    opener_found c.args.seen.now c.range_from.result.now c.heredoc_mark_len-mark.result c.in-Some.len (c.heredoc_mark_len-mark.ensures ∙ ap heredoc_mark_len c.as_bytes.ensures.value)
    (some_of c.heredoc_mark_len-mark.result c.if-mark-eq0.false) c.range_from.ensures.value c.in-Some.ensures.found

pub returns-in-None-clause-none : goal.returns-in-None-clause-none
returns-in-None-clause-none c =
    opener_none c.args.seen.now c.range_from.result.now c.heredoc_mark_len-mark.result (c.heredoc_mark_len-mark.ensures ∙ ap heredoc_mark_len c.as_bytes.ensures.value) c.range_from.ensures.value c.in-None.ensures.none
