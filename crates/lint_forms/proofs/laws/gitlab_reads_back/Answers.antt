use Rattle.lint_forms.proofs.WholeLemmas.{gitlab_back}
use Rattle.lint_forms.proofs.laws.gitlab_reads_back.Goals as goal

pub returns : goal.returns
returns c = gitlab_back
