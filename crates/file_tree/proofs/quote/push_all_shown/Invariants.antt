use Rattle.std.proofs.Common.{◌≡◌, ◌++◌, take}
use Rattle.std.specs.Prelude.{flat_map}
use Rattle.file_tree.specs.Quotes.{shown_byte}
use Rattle.file_tree.proofs.quote.push_all_shown.Given as goal

-- the bytes so far were added
abbrev pub invariant-loop-byte : goal.invariant-loop-byte
invariant-loop-byte l = l.to.items ≡ l.initial.to.items ++ flat_map shown_byte (take l.byte-index l.name)
