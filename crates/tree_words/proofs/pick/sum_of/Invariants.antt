use Rattle.std.proofs.Common.{◌≡◌, ◌<◌, take}
use Rattle.tree_words.specs.Shards.{sum_of}
use Rattle.tree_words.proofs.pick.sum_of.Given as goal

abbrev pub invariant-loop-byte : goal.invariant-loop-byte
invariant-loop-byte l = (l.sum ≡ sum_of (take l.byte-index l.name)) × (l.sum < 4294967291)
