use Rattle.std.proofs.Common.{◌≡◌, map, take}
use Rattle.std.specs.Prelude.{string_bytes}
use Rattle.editor_modules.specs.Messages.{message_seen}
use Rattle.editor_modules.specs.Shown.{uris_told}
use Rattle.editor_modules.proofs.shown.uris_told.Given as goal

abbrev pub invariant-loop-message : goal.invariant-loop-message
invariant-loop-message l =
    map string_bytes l.uris.items ≡ uris_told (map message_seen (take l.message-index l.told))
