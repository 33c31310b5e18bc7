use Rattle.std.proofs.Common.{◌∙◌, ap, sym, cond, eq-eqb, drop, ◌+◌}
use Rattle.hcl_tokens.specs.Scanned.{lexeme}
use Rattle.hcl_grammar.specs.Labels.{first_literal, first_text, label_text}
use Rattle.hcl_grammar.specs.Numbered.{number_tokens}
use Rattle.hcl_grammar.proofs.NumberedLemmas.{numbered_here}
use Rattle.hcl_grammar.proofs.label.label_text.Goals as goal

pub returns-then-label : goal.returns-then-label
returns-then-label c =
    let ts = c.tokens-tokens.result.now.tokens in
    let l = c.args.label.now in
    ap first_text (sym (numbered_here ts l.first (lexeme c.get-token.result) c.get-token.ensures.token))
    ∙ ap (λ b. cond b (first_text (drop l.first (number_tokens ts))) (first_literal (drop (l.first + 1) (number_tokens ts)))) (sym (eq-eqb l.first l.last c.if-label.true))
    ∙ ap (λ s. label_text (number_tokens s.tokens) l) c.tokens-tokens.ensures.tokens
