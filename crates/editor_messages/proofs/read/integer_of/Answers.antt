use Rattle.json.specs.Find.{as_number}
use Rattle.json.specs.Value.{value_view}
use Rattle.editor_messages.proofs.IntegerLemmas.{integer_seen}
use Rattle.editor_messages.proofs.read.integer_of.Goals as goal

pub returns : goal.returns
returns c = integer_seen c.as_u64.result (as_number (value_view c.args.value.now)) c.as_u64.ensures
