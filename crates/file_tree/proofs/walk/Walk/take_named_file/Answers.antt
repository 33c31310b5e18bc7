use Rattle.std.proofs.Common.{None, Some, inl, subst}
use Rattle.file_tree.specs.Inner.Walking.{Adds, walk_view}
use Rattle.file_tree.proofs.TreeWalkLemmas.{on_ok_more}
use Rattle.file_tree.proofs.walk.Walk.take_named_file.Goals as goal

pub returns-in_ok-name-in-Err-clause-takes : goal.returns-in_ok-name-in-Err-clause-takes
returns-in_ok-name-in-Err-clause-takes g c =
    on_ok_more c.add-in-Err.result _ _ c.add-in-Err.ensures
    (λ h. inl (c.in-Err.fault, subst (λ n. Adds n (Some c.in-Err.fault) None (walk_view c.args.self.now) (walk_view c.add-in-Err.new.self)) c.in_ok-name-in-Err.ensures h))
