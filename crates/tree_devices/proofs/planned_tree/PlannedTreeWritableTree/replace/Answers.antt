use Rattle.std.proofs.Common.{◌∙◌, ap}
use Rattle.tree_devices.specs.PlannedFiles.{planned_files}
use Rattle.tree_devices.proofs.PlanLemmas.{untold_put}
use Rattle.tree_devices.proofs.planned_tree.PlannedTreeWritableTree.replace.Goals as goal

pub returns-in-Ok-clause-ok : goal.returns-in-Ok-clause-ok
returns-in-Ok-clause-ok c = ap planned_files c.call.ensures.rows ∙ untold_put c.args.self.now.names.now c.args._name.now c.args._new.now
