use Rattle.std.proofs.Common.{◌≡◌, false}
use Rattle.std.specs.Io.KnownBytes.{Consumes}
use Rattle.tree_words.proofs.operands.read_names.Given as goal

abbrev pub invariant-loop : goal.invariant-loop
invariant-loop g l = record {
  failed : g.R.ByteSource.failed l.input ≡ false;
  given : Consumes (g.R.ByteSource.left l.initial.input) (g.R.ByteSource.left l.input) l.bytes.items;
}
