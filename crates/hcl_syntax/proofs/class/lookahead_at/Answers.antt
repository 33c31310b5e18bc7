use Rattle.std.proofs.Common.{ap, cond, sym, drop, ◌+◌, ◌∷◌, ◌∙◌}
use Rattle.hcl_grammar.specs.Classes.{is_trivia, lookaheads_from}
use Rattle.hcl_syntax.proofs.LookaheadLemmas.{at-number}
use Rattle.hcl_syntax.proofs.class.lookahead_at.Goals as goal

pub returns : goal.returns
returns c =
    at-number c.args.tokens.now.tokens c.args.number _ _ c.get-token.ensures.token c.class_at.ensures
    ∙ ap (λ n. cond (is_trivia c.class_at.result) (lookaheads_from (c.args.number + 1) (drop (c.args.number + 1) c.args.tokens.now.tokens)) (record { class = c.class_at.result; number = n } ∷ lookaheads_from (c.args.number + 1) (drop (c.args.number + 1) c.args.tokens.now.tokens))) (sym c.narrow.ensures)
