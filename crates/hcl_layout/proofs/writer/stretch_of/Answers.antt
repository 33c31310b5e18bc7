use Rattle.std.proofs.Common.{◌∙◌, ◌++◌, ap, arith, drop, replicate, sym, take}
use Rattle.hcl_layout.proofs.writer.stretch_of.Goals as goal

pub returns-clause-same : goal.returns-clause-same
returns-clause-same c = ap (λ k. replicate c.args.piece.gap 32 ++ take k (drop c.args.piece.token.start c.args.source.now)) (omega arith) ∙ ap (λ l. replicate c.args.piece.gap 32 ++ l) (sym c.requires.source.0)
