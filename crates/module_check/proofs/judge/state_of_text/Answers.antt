use Rattle.std.proofs.Common.{subst}
use Rattle.module_check.specs.Inner.Judging.{Judges}
use Rattle.module_check.proofs.judge.state_of_text.Goals as goal

pub returns-in-Accepted : goal.returns-in-Accepted
returns-in-Accepted c told tells is =
    let j = subst (Judges c.args.source c.args.size c.args.number _ _) c.in-Accepted.is c.in_ok-judgement.ensures in
    ((tells, is, j.0, (j.1.0, j.1.1)), j.1)

pub returns-in-Refused : goal.returns-in-Refused
returns-in-Refused c told tells is =
    let j = subst (Judges c.args.source c.args.size c.args.number _ _) c.in-Refused.is c.in_ok-judgement.ensures in
    ((tells, is, j.0, j.1), j.2)

pub returns-in-TooMuch : goal.returns-in-TooMuch
returns-in-TooMuch c told tells is =
    let j = subst (Judges c.args.source c.args.size c.args.number _ _) c.in-TooMuch.is c.in_ok-judgement.ensures in
    ((c.args.source, tells, (is, j.0)), j.1)
