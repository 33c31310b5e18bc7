use Rattle.tf_facts.proofs.CutLemmas.{begins, ends}
use Rattle.tf_facts.proofs.texts.cut.Goals as goal

pub loop-end-init : goal.loop-end-init
loop-end-init c = begins c.args.text.now c.args.byte

pub returns : goal.returns
returns c = ends c.args.text.now c.args.byte c.loop-end.end c.loop-end-test.false c.loop-end.invariant
