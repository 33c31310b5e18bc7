use Rattle.std.proofs.Common.{map}
use Rattle.tffmt_command.specs.Answer.{IsAnswer}
use Rattle.tffmt_command.specs.Line.{options_of}
use Rattle.tffmt_command.proofs.AnswerLemmas.{answered, row_of_options}
use Rattle.tffmt_command.proofs.run.program.Goals as goal

pub returns-in-Ok-clause-row : goal.returns-in-Ok-clause-row
returns-in-Ok-clause-row g c =
    let w = c.run.ensures in
    (w.0, row_of_options (options_of (map (λ word. word.now) c.args.words.now)) c.in-Ok.options _ _ w.0 c.in-Ok.ensures w.1, w.2)

pub returns-in-Ok-clause-answer : goal.returns-in-Ok-clause-answer
returns-in-Ok-clause-answer g c =
    let w = c.run.ensures in
    answered (IsAnswer (map (λ word. word.now) c.args.words.now)) _ _ _
    (w.0, row_of_options (options_of (map (λ word. word.now) c.args.words.now)) c.in-Ok.options _ _ w.0 c.in-Ok.ensures w.1, w.2)
