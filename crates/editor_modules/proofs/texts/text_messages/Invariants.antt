use Rattle.std.proofs.Common.{◌∷◌, map, take}
use Rattle.std.specs.Prelude.{string_bytes}
use Rattle.editor_modules.specs.Messages.{TellTexts, message_seen}
use Rattle.editor_modules.specs.Shown.{other_uris}
use Rattle.editor_modules.proofs.texts.text_messages.Given as goal

abbrev pub invariant-loop-other : goal.invariant-loop-other
invariant-loop-other l =
    TellTexts l.fn.units l.documents (l.uri ∷ other_uris l.uri (map string_bytes (take l.other-index l.others))) (map message_seen l.all.items)
