use Rattle.lint_forms.proofs.WholeLemmas.{sarif_back}
use Rattle.lint_forms.proofs.laws.sarif_reads_back.Goals as goal

pub returns : goal.returns
returns c = sarif_back
