use Rattle.tfrules_command.proofs.OneAnswerLemmas.{one_answer}
use Rattle.tfrules_command.proofs.laws.one_answer.Goals as goal

pub returns : goal.returns
returns c = one_answer
