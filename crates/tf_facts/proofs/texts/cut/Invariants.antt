use Rattle.tf_facts.proofs.CutLemmas.{ArePassed}
use Rattle.tf_facts.proofs.texts.cut.Given as goal

abbrev pub invariant-loop-end : goal.invariant-loop-end
invariant-loop-end l = ArePassed l.text l.byte l.end
