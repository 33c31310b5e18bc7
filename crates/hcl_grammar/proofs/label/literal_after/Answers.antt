use Rattle.std.proofs.Common.{◌∙◌, ap, sym, cond, [], ◌+◌, arith}
use Rattle.hcl_tokens.specs.Scanned.{lexeme}
use Rattle.hcl_grammar.specs.Labels.{first_literal}
use Rattle.hcl_grammar.proofs.NumberedLemmas.{numbered_here, numbered_past}
use Rattle.hcl_grammar.proofs.label.literal_after.Goals as goal

pub returns-then-next-count : goal.returns-then-next-count
returns-then-next-count c = ap first_literal (sym (numbered_past c.args.tokens.now.tokens (c.args.number + 1) (omega (arith, c.len-count.ensures.len))))

pub returns-then-not-is_lit : goal.returns-then-not-is_lit
returns-then-not-is_lit c =
    ap (λ b. cond b c.get-token.result.text.now []) (sym c.if-not-is_lit.true ∙ c.is_lit.ensures)
    ∙ ap first_literal (sym (numbered_here c.args.tokens.now.tokens (c.args.number + 1) (lexeme c.get-token.result) c.get-token.ensures.token))

pub returns : goal.returns
returns c =
    ap (λ b. cond b c.get-token.result.text.now []) (sym c.if-not-is_lit.false ∙ c.is_lit.ensures)
    ∙ ap first_literal (sym (numbered_here c.args.tokens.now.tokens (c.args.number + 1) (lexeme c.get-token.result) c.get-token.ensures.token))
