use Rattle.file_tree.proofs.OnceLemmas.{keeps_more}
use Rattle.file_tree.proofs.once.keep_all.Goals as goal

pub loop-each-preserved : goal.loop-each-preserved
loop-each-preserved c =
    keeps_more _ c.in-Some.each c.loop-each.yielded c.loop-each.kept.items c.keep_once.new.kept.items _ _ c.loop-each.invariant c.in_ok-keep_once.ensures
