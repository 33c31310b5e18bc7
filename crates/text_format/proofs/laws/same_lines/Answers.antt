use Rattle.text_format.proofs.SameLineLemmas.{lines_again, numbered_again}
use Rattle.text_format.proofs.laws.same_lines.Goals as goal

pub returns-clause-tokens : goal.returns-clause-tokens
returns-clause-tokens c = numbered_again

pub returns-clause-lines : goal.returns-clause-lines
returns-clause-lines c = lines_again
