use Rattle.std.proofs.Common.{◌∙◌, ap, ap₂}
use Rattle.std.specs.Prelude.{◌||◌}
use Rattle.std.specs.List.{list_any}
use Rattle.std.specs.Str.{bytes_eq}
use Rattle.editor_modules.proofs.ShownLemmas.{any_inserted, told_more}
use Rattle.editor_modules.proofs.shown.uris_of.Goals as goal

pub loop-message-preserved : goal.loop-message-preserved
loop-message-preserved c uri =
    let text = c.as_str.result.now in
    ap (list_any (bytes_eq uri)) c.in_ok-insert_copy.ensures.ok
    ∙ any_inserted c.loop-message.uris text uri
    ∙ ap₂ (λ a b. a || b) (c.loop-message.invariant uri) (ap (bytes_eq uri) c.as_str.ensures.value)
    ∙ told_more c.args.told.now c.loop-message.message-index c.message-item.result uri c.loop-message-test.true c.message-item.is
