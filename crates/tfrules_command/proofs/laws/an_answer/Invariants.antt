use Rattle.std.proofs.Common.{take}
use Rattle.std.specs.Prelude.{All}
use Rattle.tfrules_command.specs.Inner.Outcomes.{HasOutcome}
use Rattle.tfrules_command.proofs.laws.an_answer.Given as goal

-- the files up to here have outcomes
abbrev pub invariant-loop-file : goal.invariant-loop-file
invariant-loop-file l = All (λ file. HasOutcome file.1.now) (take l.file-index l.files)
