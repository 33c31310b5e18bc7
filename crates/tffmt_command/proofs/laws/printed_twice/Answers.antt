use Rattle.tffmt_command.proofs.PrintAgainLemmas as law
use Rattle.tffmt_command.proofs.laws.printed_twice.Goals as goal

pub returns-clause-printed : goal.returns-clause-printed
returns-clause-printed c = law.printed_again

pub returns-clause-formatted : goal.returns-clause-formatted
returns-clause-formatted c = law.found_formatted
