use Rattle.std.proofs.Common.{refl, [], ◌∷◌}
use Rattle.hcl_grammar.specs.declared.expected.Newlines.TheVariants.{Dropped}
use Rattle.hcl_grammar.specs.declared.expected.Terminal.TheVariants.{Name, InWord, CommaSign}
use Rattle.hcl_grammar.specs.Grammar.{◌at◌, the}
use Rattle.hcl_syntax.proofs.CursorStepLemmas.{reading, onward, beside, quits, done, begins, the-stays, names-in, names-else}
use Rattle.hcl_syntax.proofs.cursor.Cursor.more_names.Goals as goal

pub returns-then-takes-clause-parses : goal.returns-then-takes-clause-parses
returns-then-takes-clause-parses c = λ count. reading c.if-takes.ensures.yes.looks (names-in _ _ c.if-takes.ensures.yes.fits) done

pub returns-in_err-expect-clause-parses : goal.returns-in_err-expect-clause-parses
returns-in_err-expect-clause-parses c = λ count. quits _ c.from_residual.ensures.1
    (begins refl refl (the-stays CommaSign Dropped) (λ t e. names-else _ _ (c.if-takes.ensures.no.unfit t e)) c.if-takes.ensures.no.shows (beside (the Name at Dropped ∷ the InWord at Dropped ∷ []) (c.in_err-expect.ensures.parses count)))

pub returns-in_err-expect-2-clause-parses : goal.returns-in_err-expect-2-clause-parses
returns-in_err-expect-2-clause-parses c = λ count. quits _ c.from_residual-in_err-expect-2.ensures.1
    (begins refl refl (the-stays CommaSign Dropped) (λ t e. names-else _ _ (c.if-takes.ensures.no.unfit t e)) c.if-takes.ensures.no.shows
    (onward (beside (the Name at Dropped ∷ the InWord at Dropped ∷ []) (c.in_ok-expect.ensures.parses count)) (beside (the InWord at Dropped ∷ []) (c.in_err-expect-2.ensures.parses count))))

pub returns-clause-parses : goal.returns-clause-parses
returns-clause-parses c = λ count. begins refl refl (the-stays CommaSign Dropped) (λ t e. names-else _ _ (c.if-takes.ensures.no.unfit t e)) c.if-takes.ensures.no.shows
    (onward (beside (the Name at Dropped ∷ the InWord at Dropped ∷ []) (c.in_ok-expect.ensures.parses count)) (onward (beside (the InWord at Dropped ∷ []) (c.in_ok-expect-2.ensures.parses count)) (c.expect-3.ensures.parses count)))
