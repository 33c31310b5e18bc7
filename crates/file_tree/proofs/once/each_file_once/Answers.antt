use Rattle.std.proofs.Common.{subst}
use Rattle.std.specs.BTreeSet.{contains}
use Rattle.file_tree.specs.Inner.Once.{Owns}
use Rattle.file_tree.specs.contracts.kind.IdentityOrd.TheImpl.{ghosts}
use Rattle.file_tree.proofs.OnceLemmas.{kept_once}
use Rattle.file_tree.proofs.once.each_file_once.Goals as goal

pub returns : goal.returns
returns c =
    kept_once c.keep_all.result c.args.found.items (contains ghosts.cmp c.in_ok-met.met)
    (subst (λ l. Owns l (contains ghosts.cmp c.in_ok-met.met)) c.as_slice.ensures.value c.in_ok-met.ensures) c.keep_all.ensures
