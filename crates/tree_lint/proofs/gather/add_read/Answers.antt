use Rattle.tree_lint.proofs.FileLemmas.{read_kept, read_lost}
use Rattle.tree_lint.proofs.gather.add_read.Goals as goal

pub returns-in-Ok-keep_text : goal.returns-in-Ok-keep_text
returns-in-Ok-keep_text c = read_kept c.args.source c.args.size c.args.number c.args.into.now _ _ c.in-Ok.all c.in-Ok.ensures c.in-Ok-keep_text.ensures.rest c.in-Ok-keep_text.ensures.texts

pub returns-in-Err-keep_text : goal.returns-in-Err-keep_text
returns-in-Err-keep_text c = read_lost c.args.source c.args.size c.args.number c.args.into.now c.keep_text.new.into

pub returns-in-Err : goal.returns-in-Err
returns-in-Err c = (c.in-Err.stop, c.in-Err.ensures, c.stop_with.ensures)
