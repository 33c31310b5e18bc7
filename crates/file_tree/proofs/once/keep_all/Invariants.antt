use Rattle.std.specs.BTreeSet.{contains}
use Rattle.file_tree.specs.Ordered.{Rises}
use Rattle.file_tree.specs.Inner.Once.{Keeps}
use Rattle.file_tree.specs.contracts.kind.IdentityOrd.TheImpl.{ghosts}
use Rattle.file_tree.proofs.once.keep_all.Given as goal

-- of the names so far the right ones were kept
abbrev pub invariant-loop-each : goal.invariant-loop-each
invariant-loop-each l = Rises l.yielded → Keeps (contains ghosts.cmp l.initial.met) l.yielded l.kept.items (contains ghosts.cmp l.met)
