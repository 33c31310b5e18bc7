use Rattle.std.proofs.Common.{None, Some, inl, subst}
use Rattle.file_tree.specs.Inner.Chosen.{chooser_view}
use Rattle.file_tree.specs.Inner.Walking.{Adds, walk_view}
use Rattle.file_tree.proofs.HearLemmas.{real_fault}
use Rattle.file_tree.proofs.TreeWalkLemmas.{on_ok_more}
use Rattle.file_tree.proofs.walk.Walk.take_asked.Goals as goal

pub returns-in_ok-name-in-Err-clause-takes : goal.returns-in_ok-name-in-Err-clause-takes
returns-in_ok-name-in-Err-clause-takes g c =
    on_ok_more c.add.result _ _ c.add.ensures
    (λ h. inl (c.in-Err.fault, subst (λ n. Adds n (Some c.in-Err.fault) None (walk_view c.args.self.now) (walk_view c.add.new.self)) c.in_ok-name-in-Err.ensures h))

pub returns-in_ok-name-in-Err-clause-hears : goal.returns-in_ok-name-in-Err-clause-hears
returns-in_ok-name-in-Err-clause-hears g c =
    real_fault c.add.result (g.T.Tree.files c.args.tree.now) (chooser_view c.args.chooser.now) c.args.operand.path.now c.in_ok-name-in-Err.name.items c.in-Err.fault (walk_view c.args.self.now) (walk_view c.add.new.self) _ _
    c.add.ensures c.in-Err.ensures.faults
