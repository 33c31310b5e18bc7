use Rattle.std.proofs.Common.{refl, [], ◌∷◌}
use Rattle.hcl_grammar.specs.declared.expected.Newlines.TheVariants.{Seen}
use Rattle.hcl_grammar.specs.Grammar.{◌at◌, eol, labels, rest}
use Rattle.hcl_syntax.proofs.CursorStepLemmas.{reading, onward, beside, quits, done, alike, rest-equals, rest-else}
use Rattle.hcl_syntax.proofs.cursor.Cursor.item.Goals as goal

pub returns-in_err-expr-clause-leads : goal.returns-in_err-expr-clause-leads
returns-in_err-expr-clause-leads c = quits _ c.from_residual.ensures.1 (reading c.if-takes.ensures.yes.looks (rest-equals _ _ c.if-takes.ensures.yes.fits) (beside (eol at Seen ∷ []) c.in_err-expr.ensures.parses))

pub returns-in_err-end_of_line-clause-leads : goal.returns-in_err-end_of_line-clause-leads
returns-in_err-end_of_line-clause-leads c = quits _ c.from_residual-in_err-end_of_line.ensures.1 (reading c.if-takes.ensures.yes.looks (rest-equals _ _ c.if-takes.ensures.yes.fits) (onward (beside (eol at Seen ∷ []) c.in_ok-expr.ensures.parses) c.in_err-end_of_line.ensures.parses))

pub returns-then-takes-clause-leads : goal.returns-then-takes-clause-leads
returns-then-takes-clause-leads c = reading c.if-takes.ensures.yes.looks (rest-equals _ _ c.if-takes.ensures.yes.fits) (onward (beside (eol at Seen ∷ []) c.in_ok-expr.ensures.parses) (onward c.in_ok-end_of_line.ensures.parses done))

pub returns-in_err-labels-clause-leads : goal.returns-in_err-labels-clause-leads
returns-in_err-labels-clause-leads c = quits _ c.from_residual-in_err-labels.ensures.1 (onward (alike {a = tt {0}} {s = rest} {s' = labels} refl (λ t e. rest-else _ _ (c.if-takes.ensures.no.unfit t e)) c.if-takes.ensures.no.shows) (c.in_err-labels.ensures.leads))

pub returns-clause-leads : goal.returns-clause-leads
returns-clause-leads c = onward (alike {a = tt {0}} {s = rest} {s' = labels} refl (λ t e. rest-else _ _ (c.if-takes.ensures.no.unfit t e)) c.if-takes.ensures.no.shows) (onward c.in_ok-labels.ensures.leads c.block.ensures.leads)
