use Rattle.std.proofs.Common.{◌≡◌, ◌++◌, replicate}
use Rattle.source_snippet.proofs.visible.put_blanks.Given as goal

abbrev pub invariant-loop : goal.invariant-loop
invariant-loop l = l.snippet.items ≡ l.initial.snippet.items ++ replicate l.counter 32
