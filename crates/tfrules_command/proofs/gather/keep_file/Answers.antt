use Rattle.tfrules_command.proofs.GatherLemmas.{keeps_none, keeps_scanned}
use Rattle.tfrules_command.proofs.gather.keep_file.Goals as goal

pub returns-in-Ok : goal.returns-in-Ok
returns-in-Ok c = keeps_scanned c.args.source.now c.args.size c.args.number _ _ c.in-Ok.file c.keep_tokens.result c.in-Ok.ensures c.keep_tokens.ensures

pub returns-in-Err : goal.returns-in-Err
returns-in-Err c = keeps_none c.args.source.now c.args.size c.args.number c.args.facts.now c.in-Err.stop c.in-Err.ensures
