use Rattle.text_format.proofs.ForgetPlaceLemmas.{print_again, seen_again}
use Rattle.text_format.proofs.laws.print_kept.Goals as goal

pub returns-clause-again : goal.returns-clause-again
returns-clause-again c = print_again

pub returns-clause-seen : goal.returns-clause-seen
returns-clause-seen c = seen_again
