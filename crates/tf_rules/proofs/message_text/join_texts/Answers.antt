use Rattle.std.specs.String.{string_bytes}
use Rattle.tf_rules.proofs.StatementLemmas.{text_more}
use Rattle.tf_rules.proofs.message_text.join_texts.Goals as goal

pub loop-text-preserved : goal.loop-text-preserved
loop-text-preserved c =
    text_more c.args.texts.now c.loop-text.text-index _ (string_bytes c.loop-text.joined) (string_bytes c.push_str.new.self) c.loop-text-test.true c.in_ok-push_str.ensures.bytes c.loop-text.invariant
