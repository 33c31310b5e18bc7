use Rattle.std.proofs.Common.{◌≡◌, false, subst}
use Rattle.tree_format.specs.Runs.{Settled, is_failed}
use Rattle.tree_format.proofs.KeptFormatLemmas.{visit_settled}
use Rattle.tree_format.proofs.run.look_at.Goals as goal

pub returns-in-None-clause-settled : goal.returns-in-None-clause-settled
returns-in-None-clause-settled g c =
    let old = g.T.Tree.files c.args.tree.now in let new = g.T.Tree.files c.visit.new.tree in
    subst (λ n. is_failed c.visit.result ≡ false → Settled c.args.mode (old.told (old.real n)) (new.told (old.real n)))
    c.as_slice.ensures.value (visit_settled c.args.shows c.args.mode old new c.as_slice.result.now (old.real c.as_slice.result.now) c.visit.result c.visit.ensures.visits)
