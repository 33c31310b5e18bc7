use Rattle.module_find.specs.Modules.{IsModuleOf}
use Rattle.module_find.proofs.modules.module_of.Given as goal

abbrev pub invariant-loop-each : goal.invariant-loop-each
invariant-loop-each l = IsModuleOf l.fn.folder.items l.yielded l.taken.module l.taken.faults.items
