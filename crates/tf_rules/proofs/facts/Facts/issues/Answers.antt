use Rattle.std.proofs.Common.{List, subst, sym}
use Rattle.std.proofs.lemmas.Result.{IfOk-weaker}
use Rattle.std.specs.Prelude.{◌≡◌}
use Rattle.tf_rules.specs.Answers.{AreIssues}
use Rattle.tf_rules.specs.Issues.{asked_of}
use Rattle.tf_rules.specs.declared.issue.Issue.{Issue}
use Rattle.tf_rules.proofs.facts.Facts.issues.Goals as goal

pub returns-in-Ok : goal.returns-in-Ok
returns-in-Ok c = λ files kept rising.
    IfOk-weaker c.owned_issues.result (λ answer. answer.items ≡ c.in-Ok.issues) (λ answer. AreIssues (asked_of c.args.settings.now) files answer.items)
    (λ answer e. subst (λ (is : List Issue). AreIssues (asked_of c.args.settings.now) files is) (sym e) (c.in-Ok.ensures files kept rising)) c.owned_issues.ensures
