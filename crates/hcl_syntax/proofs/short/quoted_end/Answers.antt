use Rattle.std.proofs.Common.{◌≡◌, ◌+◌, ◌∙◌, arith, drop, subst, sym}
use Rattle.hcl_grammar.specs.Classes.{lookaheads_from}
use Rattle.hcl_syntax.specs.Inner.ShortOperands.{IsQuoted}
use Rattle.hcl_syntax.proofs.ShortLemmas.{quoted_rest}
use Rattle.hcl_syntax.proofs.short.quoted_end.Goals as goal

pub returns-clause-quoted : goal.returns-clause-quoted
returns-clause-quoted c =
    let tokens = c.args.tokens.now.tokens in
    let from = c.args.from in
    let past : from + 1 + 1 ≡ from + 2 = omega arith in
    subst (λ n. IsQuoted (lookaheads_from from (drop from tokens)) (lookaheads_from n (drop n tokens))) past
    (quoted_rest _ _ _ _ _ c.lookahead_at-first.ensures c.lookahead_at-second.ensures (sym c.is_quoted.ensures ∙ c.if-not-is_quoted.false))
