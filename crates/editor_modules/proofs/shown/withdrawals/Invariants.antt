use Rattle.std.proofs.Common.{◌≡◌, map, take}
use Rattle.std.specs.Prelude.{string_bytes}
use Rattle.editor_modules.specs.Inner.Withdrawn.{withdrawals_of}
use Rattle.editor_modules.specs.Messages.{message_seen}
use Rattle.editor_modules.specs.Shown.{stale}
use Rattle.editor_modules.proofs.shown.withdrawals.Given as goal

abbrev pub invariant-loop-uri : goal.invariant-loop-uri
invariant-loop-uri l =
    map message_seen l.all.items ≡ withdrawals_of (stale (map string_bytes (take l.uri-index l.shown)) (map message_seen l.fn.told))
