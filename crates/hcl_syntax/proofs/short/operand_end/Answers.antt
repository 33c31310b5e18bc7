use Rattle.std.proofs.Common.{◌∙◌, sym}
use Rattle.hcl_syntax.proofs.ShortLemmas.{short_operand, quoted_operand, if_some}
use Rattle.hcl_syntax.proofs.short.operand_end.Goals as goal

pub returns-then-is_short_operand-clause-operand : goal.returns-then-is_short_operand-clause-operand
returns-then-is_short_operand-clause-operand c = short_operand _ _ _ _ c.lookahead_at-first.ensures c.steps_end.ensures.steps (sym c.is_short_operand.ensures ∙ c.if-is_short_operand.true)

pub returns-then-is_opening_quote-clause-operand : goal.returns-then-is_opening_quote-clause-operand
returns-then-is_opening_quote-clause-operand c =
    let quote = sym c.is_opening_quote.ensures ∙ c.if-is_opening_quote.true in
    if_some _ _ _ (λ end quoted. quoted_operand _ _ _ _ c.lookahead_at-first.ensures quoted quote) c.quoted_end.ensures.quoted
