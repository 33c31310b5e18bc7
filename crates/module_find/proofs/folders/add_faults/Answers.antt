use Rattle.module_find.specs.Modules.{lost_of}
use Rattle.module_find.proofs.ModuleLemmas.{told_more}
use Rattle.module_find.proofs.folders.add_faults.Goals as goal

pub loop-each-preserved : goal.loop-each-preserved
loop-each-preserved c = told_more lost_of c.args.found.now c.loop-each.each-index c.each-item.result c.args.faults.now.items _ _ c.loop-each-test.true c.each-item.is c.loop-each.invariant c.in_ok-add_fault.ensures
