use Rattle.std.proofs.Common.{◌≡◌, ◌∙◌, arith}
use Rattle.std.proofs.lemmas.Grind.{common_steps}
use Rattle.tfls_command.specs.Fronts.{front_of}
use Rattle.tfls_command.specs.declared.front.Front.TheVariants.{Partial}
use Rattle.tfls_command.proofs.StreamLemmas.{received_after}
use Rattle.tfls_command.proofs.incoming.receive.Goals as goal

pub returns-in-Some-fill-clause-received : goal.returns-in-Some-fill-clause-received
returns-in-Some-fill-clause-received g c =
    let same : c.settle.new.inbox ≡ c.loop-received.inbox = grind (arith, common_steps, c.in_default.ensures) in
    let partial : front_of c.loop-received.inbox ≡ Partial = grind (arith, common_steps, c.in_default.ensures) in
    let f = c.in-Some-fill.ensures.fills in
    received_after (g.R.ByteSource.left c.args.source.now) (g.R.ByteSource.left c.loop-received.source) (g.R.ByteSource.left c.fill.new.source) c.args.inbox.now c.loop-received.inbox c.fill.new.self f.0 c.in-Some-fill.received c.loop-received.invariant.waits partial f.1 (f.2.0 ∙ same) f.2.1 f.2.2
