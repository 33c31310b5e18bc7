use Rattle.std.proofs.Common.{None, Some}
use Rattle.tree_devices.proofs.PlanLemmas.{taken}
use Rattle.tree_devices.proofs.planned_tree.PlannedTree.call.Goals as goal

pub returns-in-Some-clause-faults : goal.returns-in-Some-clause-faults
returns-in-Some-clause-faults c = taken c.args.self.now.plan.now c.args.self.now.made None (Some c.in-Some.fault) c.if-self.false c.in-Some.is

pub returns-in-None-clause-faults : goal.returns-in-None-clause-faults
returns-in-None-clause-faults c = taken c.args.self.now.plan.now c.args.self.now.made None None c.if-self.false c.in-None.is
