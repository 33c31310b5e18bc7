use Rattle.std.proofs.Common.{refl}
use Rattle.command_line.proofs.WriterLemmas.{took_less}
use Rattle.tree_lint.proofs.TreeRunLemmas.{headed, none_run}
use Rattle.tree_lint.proofs.run.run_over.Goals as goal

pub returns-in-Err-clause-ran : goal.returns-in-Err-clause-ran
returns-in-Err-clause-ran g c =
    none_run (g.T.Tree.files c.args.files.now.tree) c.args.written.manner c.args.written.head.now c.args.modules.now _ _ _ _ _
    (took_less _ _ _ c.args.written.head.now c.in-Err._fault.written c.in-Err.ensures.failed c.in-Err.ensures.written c.in-Err.ensures.err) c.in-Err.ensures.failed c.requires.err refl c.with_failed_write.ensures

pub returns-clause-ran : goal.returns-clause-ran
returns-clause-ran g c =
    headed (g.T.Tree.files c.args.files.now.tree) c.args.written.manner c.args.written.head.now c.args.modules.now _ _ _ _ _ _ _ _ c.in_default.ensures.ok c.run_all.ensures.ran
