use Rattle.std.proofs.Common.{◌∙◌, ◌++◌, List, subst, sym}
use Rattle.std.specs.Prelude.{flat_map}
use Rattle.command_line.specs.Rows.{TookBy}
use Rattle.command_line.proofs.WriterLemmas.{all_taken, took_after, took_front}
use Rattle.file_tree.specs.declared.walk.Found.{Found}
use Rattle.module_config.specs.Words.{config_lines, failure_lines}
use Rattle.module_config.specs.declared.config_file.ConfigFile.{ConfigFile}
use Rattle.module_config.proofs.words.tell_configured.Goals as goal

pub returns-then-is_err-clause-took : goal.returns-then-is_err-clause-took
returns-then-is_err-clause-took g c =
    let start = c.args.configured.now.start in
    subst
    (λ (l : List Found). TookBy (g.S.ByteSink.failed c.tell_failures.new.sink) (g.S.ByteSink.taken c.args.sink.now) (g.S.ByteSink.taken c.tell_failures.new.sink)
    (flat_map (failure_lines start) l ++ flat_map (config_lines start) c.args.configured.now.files.items))
    c.as_slice.ensures.value
    (took_front _ _ _ _ (flat_map (config_lines start) c.args.configured.now.files.items) (c.tell_failures.ensures.failed ∙ sym c.is_err.ensures.value ∙ c.if-is_err.true) c.tell_failures.ensures.took)

pub returns-clause-took : goal.returns-clause-took
returns-clause-took g c =
    let start = c.args.configured.now.start in
    subst
    (λ (l : List Found). TookBy (g.S.ByteSink.failed c.tell_files.new.sink) (g.S.ByteSink.taken c.args.sink.now) (g.S.ByteSink.taken c.tell_files.new.sink)
    (flat_map (failure_lines start) l ++ flat_map (config_lines start) c.args.configured.now.files.items))
    c.as_slice.ensures.value
    (subst
    (λ (l : List ConfigFile). TookBy (g.S.ByteSink.failed c.tell_files.new.sink) (g.S.ByteSink.taken c.args.sink.now) (g.S.ByteSink.taken c.tell_files.new.sink)
    (flat_map (failure_lines start) c.as_slice.result.now ++ flat_map (config_lines start) l))
    c.as_slice-2.ensures.value
    (took_after _ _ _ _ _ _ (all_taken _ _ _ _ (c.tell_failures.ensures.failed ∙ sym c.is_err.ensures.value ∙ c.if-is_err.false) c.tell_failures.ensures.took) c.tell_files.ensures.took))
