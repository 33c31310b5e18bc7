use Rattle.std.proofs.Common.{◌≡◌, ℕ, List, map, take}
use Rattle.std.specs.List.{list_any}
use Rattle.std.specs.Str.{bytes_eq}
use Rattle.editor_modules.specs.Messages.{message_seen}
use Rattle.editor_modules.specs.Shown.{is_told}
use Rattle.editor_modules.proofs.shown.uris_of.Given as goal

abbrev pub invariant-loop-message : goal.invariant-loop-message
invariant-loop-message l =
    (uri : List ℕ) → list_any (bytes_eq uri) l.uris ≡ is_told (map message_seen (take l.message-index l.told)) uri
