use Rattle.lint_forms.proofs.values.with_value.Goals as goal

pub returns-in-TflintIssue : goal.returns-in-TflintIssue
returns-in-TflintIssue c = rw c.in-TflintIssue.is c.with_issue.ensures

pub returns-in-TflintError : goal.returns-in-TflintError
returns-in-TflintError c = rw c.in-TflintError.is c.with_error.ensures

pub returns-in-SarifResult : goal.returns-in-SarifResult
returns-in-SarifResult c = rw c.in-SarifResult.is c.with_result.ensures
