use Rattle.std.proofs.Common.{[], ◌∷◌}
use Rattle.hcl_grammar.specs.declared.expected.Newlines.TheVariants.{Seen}
use Rattle.hcl_grammar.specs.declared.expected.Terminal.TheVariants.{EndBrace}
use Rattle.hcl_grammar.specs.Grammar.{◌at◌, the, expr, eol}
use Rattle.hcl_syntax.proofs.CursorStepLemmas.{onward, beside, quits}
use Rattle.hcl_syntax.proofs.cursor.Cursor.attribute_line.Goals as goal

pub returns-in_err-expect-clause-parses : goal.returns-in_err-expect-clause-parses
returns-in_err-expect-clause-parses c = quits _ c.from_residual.ensures.1 (beside (expr at Seen ∷ the EndBrace at Seen ∷ eol at Seen ∷ []) (c.in_err-expect.ensures.parses _))

pub returns-in_err-expr-clause-parses : goal.returns-in_err-expr-clause-parses
returns-in_err-expr-clause-parses c = quits _ c.from_residual-in_err-expr.ensures.1 (onward (beside (expr at Seen ∷ the EndBrace at Seen ∷ eol at Seen ∷ []) (c.in_ok-expect.ensures.parses _)) (beside (the EndBrace at Seen ∷ eol at Seen ∷ []) c.in_err-expr.ensures.parses))

pub returns-in_err-expect-2-clause-parses : goal.returns-in_err-expect-2-clause-parses
returns-in_err-expect-2-clause-parses c = quits _ c.from_residual-in_err-expect-2.ensures.1 (onward (beside (expr at Seen ∷ the EndBrace at Seen ∷ eol at Seen ∷ []) (c.in_ok-expect.ensures.parses _)) (onward (beside (the EndBrace at Seen ∷ eol at Seen ∷ []) c.in_ok-expr.ensures.parses) (beside (eol at Seen ∷ []) (c.in_err-expect-2.ensures.parses _))))

pub returns-clause-parses : goal.returns-clause-parses
returns-clause-parses c = onward (beside (expr at Seen ∷ the EndBrace at Seen ∷ eol at Seen ∷ []) (c.in_ok-expect.ensures.parses _)) (onward (beside (the EndBrace at Seen ∷ eol at Seen ∷ []) c.in_ok-expr.ensures.parses) (onward (beside (eol at Seen ∷ []) (c.in_ok-expect-2.ensures.parses _)) c.end_of_line.ensures.parses))
