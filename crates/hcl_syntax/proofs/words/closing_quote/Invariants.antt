use Rattle.std.proofs.Common.{◌≡◌}
use Rattle.hcl_syntax.specs.Inner.Segments.{words}
use Rattle.hcl_grammar.specs.Items.{closing_quote}
use Rattle.hcl_syntax.proofs.words.closing_quote.Given as goal

abbrev pub invariant-loop-number : goal.invariant-loop-number
invariant-loop-number l = closing_quote (words l.tokens.tokens l.number l.to) ≡ closing_quote (words l.tokens.tokens l.from l.to)
