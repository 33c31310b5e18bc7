use Rattle.std.proofs.Common.{◌≤◌, arith, length, map}
use Rattle.tfrules_command.proofs.SomeAnswerLemmas.{all_given, one_more_given, some_answer}
use Rattle.tfrules_command.proofs.laws.an_answer.Goals as goal

pub loop-file-preserved : goal.loop-file-preserved
loop-file-preserved c =
    one_more_given (λ file. file.0.now) (λ file. file.1.now) c.args.files.now c.loop-file.file-index _ c.loop-file-test.true c.loop-file.invariant c.show_outcome.ensures

pub returns : goal.returns
returns c =
    let all : length c.args.files.now ≤ c.loop-file.file-index = omega (arith, c.loop-file-test.false) in
    some_answer (map (λ word. word.now) c.args.words.now) _ (all_given (λ file. file.0.now) (λ file. file.1.now) c.args.files.now c.loop-file.file-index all c.loop-file.invariant)
