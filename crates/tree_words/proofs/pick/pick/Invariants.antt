use Rattle.std.proofs.Common.{◌≡◌}
use Rattle.std.specs.Prelude.{filter}
use Rattle.tree_words.specs.Shards.{is_of}
use Rattle.tree_words.proofs.pick.pick.Given as goal

abbrev pub invariant-loop-each : goal.invariant-loop-each
invariant-loop-each l = l.kept.items ≡ filter (is_of l.shard) l.yielded
