use Rattle.std.proofs.Common.{[], ◌∷◌, length, Ok, ◌≤◌, ◌<◌, ◌+◌, ◌^◌}
use Rattle.hcl_grammar.specs.Grammar.{◌at◌, file}
use Rattle.hcl_syntax.specs.Inner.Parsing.{Advances, bodies}
use Rattle.hcl_grammar.specs.declared.expected.Newlines.TheVariants.{Seen}
use Rattle.hcl_syntax.proofs.cursor.Cursor.file.Given as goal

abbrev pub invariant-loop-token : goal.invariant-loop-token
invariant-loop-token l = record {
  leads : Advances 0 (file at Seen ∷ []) l.fn.self.left (Ok (tt {0})) (bodies l.levels) l.self.left;
  shorter : l.levels + length l.self.left ≤ length l.fn.self.left;
  room : length l.fn.self.left < 2 ^ 64;
}

abbrev pub decreases-loop-token : goal.decreases-loop-token
decreases-loop-token l = length l.self.left
