use Rattle.std.proofs.Common.{◌∙◌, sym}
use Rattle.tf_facts.proofs.CommentLemmas.{is_silent, is_told}
use Rattle.tf_facts.proofs.comment.telling_comment.Goals as goal

pub returns : goal.returns
returns c =
    is_told (record { at = c.args.number; has_slashes = c.has_slashes-slashes.result; silences = c.silenced_rules-silences.result }) c.args.text.now c.has_slashes-slashes.ensures c.silenced_rules-silences.ensures
    (sym c.is_telling.ensures ∙ c.if-not-is_telling.false)

pub returns-then-not-is_telling : goal.returns-then-not-is_telling
returns-then-not-is_telling c =
    is_silent (record { at = c.args.number; has_slashes = c.has_slashes-slashes.result; silences = c.silenced_rules-silences.result }) c.args.text.now c.has_slashes-slashes.ensures c.silenced_rules-silences.ensures
    (sym c.is_telling.ensures ∙ c.if-not-is_telling.true)
