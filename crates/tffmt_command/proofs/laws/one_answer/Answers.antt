use Rattle.tffmt_command.proofs.AnswerLemmas.{one_answer}
use Rattle.tffmt_command.proofs.laws.one_answer.Goals as goal

pub returns : goal.returns
returns c = one_answer
