use Rattle.std.proofs.Common.{◌∙◌, sym}
use Rattle.hcl_tokens.specs.Scanned.{lexeme}
use Rattle.hcl_syntax.proofs.SoughtLemmas.{closing_here, closing_past}
use Rattle.hcl_syntax.proofs.words.closing_quote.Goals as goal

pub returns-then-is_quote_close : goal.returns-then-is_quote_close
returns-then-is_quote_close c =
    sym (closing_here c.args.tokens.now.tokens c.loop-number.number c.args.to (lexeme c.get-token.result) c.get-token.ensures.token c.loop-number-test.true (sym c.is_quote_close.ensures ∙ c.if-is_quote_close.true))
    ∙ c.loop-number.invariant

pub loop-number-preserved : goal.loop-number-preserved
loop-number-preserved c =
    sym (closing_past c.args.tokens.now.tokens c.loop-number.number c.args.to (lexeme c.get-token.result) c.get-token.ensures.token c.loop-number-test.true (sym c.is_quote_close.ensures ∙ c.if-is_quote_close.false))
    ∙ c.loop-number.invariant
