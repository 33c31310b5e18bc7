use Rattle.std.proofs.Common.{ℕ, [], ◌∷◌, length, Ok, ◌≤◌}
use Rattle.hcl_grammar.specs.declared.expected.Terminal.TheVariants.{Name}
use Rattle.hcl_grammar.specs.Grammar.{◌at◌, the, path}
use Rattle.hcl_syntax.specs.Inner.Parsing.{Advances}
use Rattle.hcl_syntax.proofs.cursor.Cursor.path.Given as goal

abbrev pub invariant-loop-self : goal.invariant-loop-self
invariant-loop-self l = record {
  leads : (count : ℕ) → Advances count (the Name at l.newlines ∷ path at l.newlines ∷ []) l.fn.self.left (Ok (tt {0})) (the Name at l.newlines ∷ path at l.newlines ∷ []) l.self.left;
  shorter : length l.self.left ≤ length l.fn.self.left;
}

abbrev pub decreases-loop-self : goal.decreases-loop-self
decreases-loop-self l = length l.self.left
