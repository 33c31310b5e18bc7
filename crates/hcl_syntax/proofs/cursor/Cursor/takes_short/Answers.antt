use Rattle.std.proofs.Common.{[], ◌∷◌, ◌∙◌, Ok, ap, drop, subst, sym}
use Rattle.hcl_grammar.specs.Classes.{lookaheads_from}
use Rattle.hcl_grammar.specs.Grammar.{◌at◌, expr}
use Rattle.hcl_syntax.specs.Inner.Parsing.{Parses}
use Rattle.hcl_syntax.proofs.ShortLemmas.{expression_ends}
use Rattle.hcl_syntax.proofs.cursor.Cursor.takes_short.Goals as goal

pub returns-clause-yes : goal.returns-clause-yes
returns-clause-yes c = λ count.
    let m = c.args.newlines in
    let end = c.in-Some.end in
    let left = lookaheads_from end (drop end c.self.inside.tokens.now.tokens) in
    let ends = expression_ends m _ left _ c.lookahead_at-after.ensures (sym c.ends_expression.ensures ∙ c.if-not-ends_expression.false) in
    subst (λ old. Parses count (expr at m ∷ []) old (Ok (tt {0})) left) (ap (λ s. s.left) c.self.view_is) (c.in-Some.ensures.operand.reads m count ends)
