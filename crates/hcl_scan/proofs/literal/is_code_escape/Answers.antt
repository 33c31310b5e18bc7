use Rattle.std.proofs.Common.{◌&&◌, drop, sym, ap, ◌∙◌}
use Rattle.hcl_tokens.specs.Spelling.{hex_digits_after}
use Rattle.hcl_scan.proofs.TextStartLemmas.{starts_same}
use Rattle.hcl_scan.proofs.literal.is_code_escape.Goals as goal

pub returns-then-not-starts_with : goal.returns-then-not-starts_with
returns-then-not-starts_with c = ap (λ v. v && hex_digits_after c.args.count (drop 2 c.args.seen.now)) (sym c.if-not-starts_with.true ∙ c.starts_with.ensures.value ∙ starts_same c.args.seen.now c.args.front.now)
