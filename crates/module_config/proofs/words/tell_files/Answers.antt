use Rattle.command_line.proofs.WriterLemmas.{all_taken, goes_on}
use Rattle.module_config.proofs.WordLemmas.{lines_here}
use Rattle.module_config.specs.Words.{config_lines}
use Rattle.module_config.proofs.words.tell_files.Goals as goal

pub loop-file-preserved : goal.loop-file-preserved
loop-file-preserved g c = (
  c.in_ok-tell_file.ensures.failed,
  goes_on _ _ _ _ _ _ _ (lines_here (config_lines c.args.start.now) c.args.files.now c.loop-file.file-index c.file-item.result c.loop-file-test.true c.file-item.is)
      (all_taken _ _ _ _ c.in_ok-tell_file.ensures.failed c.in_ok-tell_file.ensures.took) c.loop-file.invariant.1,
)
