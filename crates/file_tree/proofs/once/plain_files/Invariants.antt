use Rattle.std.proofs.Common.{take}
use Rattle.std.specs.BTreeSet.{contains}
use Rattle.file_tree.specs.Inner.Once.{Owns}
use Rattle.file_tree.specs.contracts.kind.IdentityOrd.TheImpl.{ghosts}
use Rattle.file_tree.proofs.once.plain_files.Given as goal

-- the files of the names so far were noted
abbrev pub invariant-loop-each : goal.invariant-loop-each
invariant-loop-each l = Owns (take l.each-index l.found) (contains ghosts.cmp l.met)
