use Rattle.file_tree.proofs.OnceLemmas.{owns_step}
use Rattle.file_tree.proofs.once.plain_files.Goals as goal

pub loop-each-preserved : goal.loop-each-preserved
loop-each-preserved c =
    owns_step c.args.found.now c.loop-each.each-index c.each-item.result _ _ c.loop-each-test.true c.each-item.is c.loop-each.invariant c.in_ok-note_plain.ensures
