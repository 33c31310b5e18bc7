use Rattle.tree_lint.proofs.FileLemmas.{adds_read, stops_unread}
use Rattle.tree_lint.proofs.gather.add_file.Goals as goal

pub returns-in-Ok-clause-adds : goal.returns-in-Ok-clause-adds
returns-in-Ok-clause-adds g c =
    let r = c.in-Ok.ensures.reads in
    adds_read _ c.in-Ok.source _ _ _ _ _ _ c.add_read.result r.0 r.1 r.2 c.add_read.ensures

pub returns-in-Err-clause-adds : goal.returns-in-Err-clause-adds
returns-in-Err-clause-adds g c = stops_unread _ _ _ _ _ c.in-Err.stop c.in-Err.ensures.reads
