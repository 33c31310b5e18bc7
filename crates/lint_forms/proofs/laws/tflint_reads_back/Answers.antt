use Rattle.lint_forms.proofs.WholeLemmas.{tflint_back}
use Rattle.lint_forms.proofs.laws.tflint_reads_back.Goals as goal

pub returns : goal.returns
returns c = tflint_back
