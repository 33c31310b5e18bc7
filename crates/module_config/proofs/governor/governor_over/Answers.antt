use Rattle.std.proofs.Common.{◌≡◌, inl, subst}
use Rattle.file_tree.specs.Paths.{place}
use Rattle.module_config.specs.Inner.Looking.{IsAskedIn, StuckBy}
use Rattle.module_config.proofs.LookLemmas.{path_failed, stuck_unknown}
use Rattle.module_config.proofs.governor.governor_over.Goals as goal

pub returns-in-Err-clause-is : goal.returns-in-Err-clause-is
returns-in-Err-clause-is g c =
    stuck_unknown (g.T.Tree.files c.args.tree.now) c.args.current.now (place c.args.folder.now) (λ name. name ≡ place c.args.folder.now) _ _ c.in-Err.stuck c.unknown_governor.result (λ name h. inl h) c.in-Err.ensures.err c.unknown_governor.ensures

pub returns-clause-is : goal.returns-clause-is
returns-clause-is g c =
    stuck_unknown (g.T.Tree.files c.args.tree.now) c.args.current.now (place c.args.folder.now) (IsAskedIn c.as_slice.result.now) (g.T.Tree.faults c.args.tree.now) _ c.in-Err-file_over.stuck c.unknown_governor-in-Err-file_over.result
    (λ name h. path_failed (g.T.Tree.files c.args.tree.now) (place c.args.folder.now) c.as_slice.result.now c.in-Ok.path.items name c.as_slice.ensures.value c.in-Ok.ensures.ok.1 h)
    (subst (λ f. StuckBy (IsAskedIn c.as_slice.result.now) f (g.T.Tree.faults c.file_over.new.tree) c.in-Err-file_over.stuck) c.in-Ok.ensures.ok.0 c.in-Err-file_over.ensures.err) c.unknown_governor-in-Err-file_over.ensures
