use Rattle.std.proofs.Common.{◌≡◌, drop}
use Rattle.tf_facts.specs.Texts.{without_front}
use Rattle.tf_facts.specs.Silencing.{is_margin}
use Rattle.tf_facts.proofs.silencing.without_front.Given as goal

abbrev pub invariant-loop-start : goal.invariant-loop-start
invariant-loop-start l = without_front is_margin (drop l.start l.text) ≡ without_front is_margin l.text
