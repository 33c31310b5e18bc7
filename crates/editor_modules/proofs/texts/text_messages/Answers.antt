use Rattle.std.proofs.Common.{◌∷◌, [], ℕ, List, ap, map, subst, take}
use Rattle.std.specs.Prelude.{string_bytes}
use Rattle.editor_modules.specs.Messages.{TellTexts, message_seen}
use Rattle.editor_modules.specs.Shown.{other_uris}
use Rattle.editor_modules.proofs.TextLemmas.{others_more, texts_append}
use Rattle.editor_modules.proofs.texts.text_messages.Goals as goal

pub loop-other-preserved : goal.loop-other-preserved
loop-other-preserved c =
    let uri = c.args.uri.now in
    let i = c.loop-other.other-index in
    let others = c.args.others.now in
    let other = c.as_str.result.now in
    let so_far = uri ∷ other_uris uri (map string_bytes (take i others)) in
    let old = map message_seen c.loop-other.all.items in
    let new = map message_seen c.add_other.new.all.items in
    subst (λ (uris : List (List ℕ)). TellTexts c.args.units c.args.documents.now uris new)
    (ap (λ (uris : List (List ℕ)). uri ∷ uris) (others_more uri others i c.other-item.result other c.loop-other-test.true c.other-item.is c.as_str.ensures.value))
    (texts_append c.args.units c.args.documents.now so_far (other_uris uri (other ∷ [])) old new c.loop-other.invariant c.in_ok-add_other.ensures)
