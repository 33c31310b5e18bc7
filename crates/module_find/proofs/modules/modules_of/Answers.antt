use Rattle.std.proofs.Common.{◌∙◌}
use Rattle.module_find.proofs.ModuleLemmas.{modules_more}
use Rattle.module_find.proofs.modules.modules_of.Goals as goal

pub loop-folder-preserved : goal.loop-folder-preserved
loop-folder-preserved g c = (
  c.add.ensures.unchanged.0 ∙ c.loop-folder.invariant.0,
  c.add.ensures.unchanged.1 ∙ c.loop-folder.invariant.1,
  modules_more _ _ _ c.args.looked.items c.loop-folder.yielded c.in-Some.folder c.loop-folder.all c.add.new.self _ _ _ c.loop-folder.invariant.0
      c.loop-folder.invariant.3 c.loop-folder.invariant.2 c.in_ok-add.ensures.adds,
  λ one within. c.loop-folder.invariant.3 one (c.add.ensures.left one within),
)
