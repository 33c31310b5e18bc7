use Rattle.std.proofs.Common.{[], ◌∷◌, length, Ok, ◌≤◌}
use Rattle.hcl_grammar.specs.Grammar.{◌at◌, labels}
use Rattle.hcl_syntax.specs.Inner.Parsing.{Advances}
use Rattle.hcl_grammar.specs.declared.expected.Newlines.TheVariants.{Seen}
use Rattle.hcl_syntax.proofs.cursor.Cursor.labels.Given as goal

abbrev pub invariant-loop-token : goal.invariant-loop-token
invariant-loop-token l = record {
  leads : Advances 0 (labels at Seen ∷ []) l.fn.self.left (Ok (tt {0})) (labels at Seen ∷ []) l.self.left;
  shorter : length l.self.left ≤ length l.fn.self.left;
}

abbrev pub decreases-loop-token : goal.decreases-loop-token
decreases-loop-token l = length l.self.left
