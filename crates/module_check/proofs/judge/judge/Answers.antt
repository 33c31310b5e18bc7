use Rattle.std.proofs.Common.{refl, subst}
use Rattle.std.specs.Prelude.{Err}
use Rattle.tfrules_command.specs.Keeping.{ScansFile}
use Rattle.tfrules_command.specs.declared.stop.Stop.{Stop}
use Rattle.module_check.proofs.CheckLemmas.{judges_scanned}
use Rattle.module_check.proofs.judge.judge.Goals as goal

pub returns-in-Ok : goal.returns-in-Ok
returns-in-Ok c = judges_scanned c.args.source.now c.args.size c.args.number _ _ c.in-Ok.file c.judge_tokens.result c.in-Ok.ensures c.judge_tokens.ensures

pub returns-in-Err-Refused : goal.returns-in-Err-Refused
returns-in-Err-Refused c =
    let s = subst (λ (why : Stop). ScansFile c.args.source.now c.args.size (Err why)) c.in-Err-Refused.field-0-is c.in-Err-Refused.ensures in
    (s.0, s.1, refl)

pub returns-in-Err-TooLarge : goal.returns-in-Err-TooLarge
returns-in-Err-TooLarge c = (subst (λ (why : Stop). ScansFile c.args.source.now c.args.size (Err why)) c.in-Err-TooLarge.field-0-is c.in-Err-TooLarge.ensures, refl)
