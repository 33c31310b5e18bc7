use Rattle.tree_lint.proofs.FileLemmas.{keeps_file}
use Rattle.tree_lint.proofs.gather.keep.Goals as goal

pub returns-in-Ok : goal.returns-in-Ok
returns-in-Ok c = keeps_file c.args.source.now c.args.size c.args.number c.args.into.now _ c.in-Ok.file c.keep_scanned.result c.in-Ok.ensures c.keep_scanned.ensures
