use Rattle.module_find.proofs.ModuleLemmas.{module_more}
use Rattle.module_find.proofs.modules.module_of.Goals as goal

pub loop-each-preserved : goal.loop-each-preserved
loop-each-preserved c = module_more c.args.folder.items c.loop-each.yielded c.in-Some.each _ _ c.loop-each.invariant c.in_ok-take.ensures
