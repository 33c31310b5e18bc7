use Rattle.std.proofs.Common.{map}
use Rattle.std.specs.Prelude.{string_bytes}
use Rattle.editor_modules.proofs.ModuleLemmas.{IsLeft}
use Rattle.editor_modules.proofs.told.messages_of.Given as goal

abbrev pub invariant-loop-number : goal.invariant-loop-number
invariant-loop-number l = IsLeft l.units l.documents l.checked.issues.items (map string_bytes l.names) l.checked.files.items l.number l.all.items
