use Rattle.std.proofs.Common.{rules, refl}
use Rattle.hcl_syntax.proofs.CursorStepLemmas.{looks, reading, refusing, refusing-end, onward, quits, done, kept-refusal, kept-refusal-end}
use Rattle.hcl_syntax.proofs.cursor.Cursor.block.Goals as goal

pub returns-in_default-clause-leads : goal.returns-in_default-clause-leads
returns-in_default-clause-leads c = kept-refusal-end c.keep_refusal.ensures.refusal (refusing-end c.look.ensures.left c.in_default.ensures.found refl)

pub returns-in-Newline-clause-leads : goal.returns-in-Newline-clause-leads
returns-in-Newline-clause-leads c = reading (looks _ _ _ _ _ c.look.ensures.left c.in-Some.ensures.found c.bump.ensures.left) (search rules) (done)

pub returns-in_err-attribute_line-in-Ident-clause-leads : goal.returns-in_err-attribute_line-in-Ident-clause-leads
returns-in_err-attribute_line-in-Ident-clause-leads c = quits _ c.from_residual.ensures.1 (reading (looks _ _ _ _ _ c.look.ensures.left c.in-Some.ensures.found c.bump-in-Ident.ensures.left) (search rules) (c.in_err-attribute_line-in-Ident.ensures.parses))

pub returns-in_ok-attribute_line-in-Ident-clause-leads : goal.returns-in_ok-attribute_line-in-Ident-clause-leads
returns-in_ok-attribute_line-in-Ident-clause-leads c = reading (looks _ _ _ _ _ c.look.ensures.left c.in-Some.ensures.found c.bump-in-Ident.ensures.left) (search rules) (onward c.in_ok-attribute_line-in-Ident.ensures.parses done)

pub returns-in_err-end_of_line-in-BraceClose-clause-leads : goal.returns-in_err-end_of_line-in-BraceClose-clause-leads
returns-in_err-end_of_line-in-BraceClose-clause-leads c = quits _ c.from_residual-in_err-end_of_line-in-BraceClose.ensures.1 (reading (looks _ _ _ _ _ c.look.ensures.left c.in-Some.ensures.found c.bump-in-BraceClose.ensures.left) (search rules) (c.in_err-end_of_line-in-BraceClose.ensures.parses))

pub returns-in_ok-end_of_line-in-BraceClose-clause-leads : goal.returns-in_ok-end_of_line-in-BraceClose-clause-leads
returns-in_ok-end_of_line-in-BraceClose-clause-leads c = reading (looks _ _ _ _ _ c.look.ensures.left c.in-Some.ensures.found c.bump-in-BraceClose.ensures.left) (search rules) (onward c.in_ok-end_of_line-in-BraceClose.ensures.parses done)

pub returns-in_default-class : goal.returns-in_default-class
returns-in_default-class c = record { leads = kept-refusal c.keep_refusal-in_default-class.ensures.refusal (refusing (looks _ _ _ _ _ c.look.ensures.left c.in-Some.ensures.found refl) (search rules)); shorter = tt }
