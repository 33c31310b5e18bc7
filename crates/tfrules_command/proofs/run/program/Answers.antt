use Rattle.std.proofs.Common.{map}
use Rattle.tfrules_command.specs.Inner.Steps.{usage_row}
use Rattle.tfrules_command.specs.Line.{options_of}
use Rattle.tfrules_command.proofs.EndRowLemmas.{usage_shown}
use Rattle.tfrules_command.proofs.OptionRowLemmas.{either_way, options_row, unopened_by_options, usage_or}
use Rattle.tfrules_command.proofs.run.program.Goals as goal

pub returns-in-Ok-clause-row : goal.returns-in-Ok-clause-row
returns-in-Ok-clause-row g c =
    let w = c.run.ensures.row in
    (w.0, options_row (g.M.ModuleFiles.told c.args.files.now) (options_of (map (λ word. word.now) c.args.words.now)) c.in-Ok.options _ _ w.0 c.in-Ok.ensures w.1, w.2)

pub returns-in-Err-clause-row : goal.returns-in-Err-clause-row
returns-in-Err-clause-row g c = (
  usage_row c.in-Err.usage,
  usage_shown (g.M.ModuleFiles.told c.args.files.now) (options_of (map (λ word. word.now) c.args.words.now)) c.in-Err.usage _ _ c.requires.opened c.requires.read
      (usage_or c.in-Err.usage _ c.in-Err.ensures),
  c.tell_usage.ensures,
)

pub returns-in-Ok-clause-unopened : goal.returns-in-Ok-clause-unopened
returns-in-Ok-clause-unopened g c = unopened_by_options (options_of (map (λ word. word.now) c.args.words.now)) c.in-Ok.options _ c.in-Ok.ensures

pub returns-in-Err-clause-unopened : goal.returns-in-Err-clause-unopened
returns-in-Err-clause-unopened g c = either_way (options_of (map (λ word. word.now) c.args.words.now)) _ (c.requires.opened, c.requires.read)
