use Rattle.std.proofs.Common.{ap, arith, length}
use Rattle.hcl_tokens.specs.Scanned.{Scanned}
use Rattle.hcl_layout.specs.Inner.LineGaps.{len_with_blanks}
use Rattle.hcl_layout.proofs.SizeLemmas.{scanned_len_with_blanks}
use Rattle.hcl_layout.proofs.measured.Measured.len_bound.Goals as goal

pub returns-clause-bound : goal.returns-clause-bound
returns-clause-bound c =
    let all = c.self.inside.tokens.now in
    omega (arith, ap (λ (s : Scanned). len_with_blanks s.tokens) c.self.view_is, scanned_len_with_blanks all.text all.tokens c.source.ensures.scanned, ap length c.source.ensures.source, ap length c.text.ensures.value, c.len.ensures.len)
