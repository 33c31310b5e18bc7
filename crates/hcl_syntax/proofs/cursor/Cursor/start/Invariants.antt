use Rattle.std.proofs.Common.{ℕ, [], ◌∷◌, length, Ok, ◌≤◌}
use Rattle.hcl_grammar.specs.Grammar.{◌at◌, expr}
use Rattle.hcl_syntax.specs.Inner.Parsing.{Advances}
use Rattle.hcl_syntax.proofs.cursor.Cursor.start.Given as goal

abbrev pub invariant-loop-token : goal.invariant-loop-token
invariant-loop-token l = record {
  leads : (count : ℕ) → Advances count (expr at l.newlines ∷ []) l.fn.self.left (Ok (tt {0})) (expr at l.newlines ∷ []) l.self.left;
  shorter : length l.self.left ≤ length l.fn.self.left;
}

abbrev pub decreases-loop-token : goal.decreases-loop-token
decreases-loop-token l = length l.self.left
