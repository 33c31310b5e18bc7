use Rattle.std.proofs.Common.{◌∙◌, ap, sym}
use Rattle.tfls_command.specs.Fronts.{front_of}
use Rattle.tfls_command.proofs.StreamLemmas.{message_order, message_within}
use Rattle.tfls_command.proofs.incoming.settle.Goals as goal

pub take_message-requires-clause-order : goal.take_message-requires-clause-order
take_message-requires-clause-order c =
    message_order c.args.inbox.now c.in-Message.from c.in-Message.to (ap front_of (sym c.waiting.ensures) ∙ sym c.in-Message.ensures.front)

pub take_message-requires-clause-within : goal.take_message-requires-clause-within
take_message-requires-clause-within c =
    message_within c.args.inbox.now c.in-Message.from c.in-Message.to (ap front_of (sym c.waiting.ensures) ∙ sym c.in-Message.ensures.front)
