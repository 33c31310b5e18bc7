use Rattle.std.proofs.Common.{◌≡◌, drop}
use Rattle.tf_facts.specs.Sources.{after_question}
use Rattle.tf_facts.proofs.source.after_question.Given as goal

abbrev pub invariant-loop-start : goal.invariant-loop-start
invariant-loop-start l = after_question (drop l.start l.text) ≡ after_question l.text
