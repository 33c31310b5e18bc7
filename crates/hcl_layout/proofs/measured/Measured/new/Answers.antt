use Rattle.std.proofs.Common.{rules, ap, arith, length}
use Rattle.hcl_layout.proofs.SizeLemmas.{scanned_disjoint, scanned_len_with_blanks}
use Rattle.hcl_layout.proofs.measured.Measured.new.Goals as goal

pub invariant_of-result : goal.invariant_of-result
invariant_of-result c =
    let all = c.tokens-tokens.result.now in (
      search rules,
      record {
        text = omega (arith, c.text.ensures.is_text.small, ap length c.source.ensures.source);
        tokens = omega (arith, c.text.ensures.is_text.small, ap length c.source.ensures.source, c.len-count.ensures.len, c.len-count.ensures.small);
        blanks = omega (arith, scanned_len_with_blanks all.text all.tokens c.source.ensures.scanned, c.text.ensures.is_text.small, ap length c.source.ensures.source, c.len-count.ensures.len, c.len-count.ensures.small);
        disjoint = scanned_disjoint all.text all.tokens c.source.ensures.scanned;
      },
    )
