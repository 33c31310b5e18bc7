use Rattle.std.proofs.Common.{◌≡◌}
use Rattle.hcl_syntax.specs.Inner.Segments.{words}
use Rattle.hcl_syntax.proofs.words.first_word.Given as goal

abbrev pub invariant-loop-number : goal.invariant-loop-number
invariant-loop-number l = words l.tokens.tokens l.number l.to ≡ words l.tokens.tokens l.from l.to
