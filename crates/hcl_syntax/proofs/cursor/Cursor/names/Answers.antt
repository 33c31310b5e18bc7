use Rattle.std.proofs.Common.{[], ◌∷◌}
use Rattle.hcl_grammar.specs.declared.expected.Newlines.TheVariants.{Dropped}
use Rattle.hcl_grammar.specs.Grammar.{◌at◌, names}
use Rattle.hcl_syntax.proofs.CursorStepLemmas.{onward, beside, quits}
use Rattle.hcl_syntax.proofs.cursor.Cursor.names.Goals as goal

pub returns-in_err-expect-clause-parses : goal.returns-in_err-expect-clause-parses
returns-in_err-expect-clause-parses c = λ count. quits _ c.from_residual.ensures.1 (beside (names at Dropped ∷ []) (c.in_err-expect.ensures.parses count))

pub returns-clause-parses : goal.returns-clause-parses
returns-clause-parses c = λ count. onward (beside (names at Dropped ∷ []) (c.in_ok-expect.ensures.parses count)) (c.more_names.ensures.parses count)
