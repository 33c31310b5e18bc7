use Rattle.std.proofs.Common.{◌≡◌, map, take}
use Rattle.std.specs.Prelude.{string_bytes}
use Rattle.file_tree.specs.Quotes.{shown_name}
use Rattle.tree_lint.proofs.shown.Shown.new.Given as goal

abbrev pub invariant-loop-name : goal.invariant-loop-name
invariant-loop-name l = map (λ shown. shown.items) l.shown.names.items ≡ map (λ name. shown_name (string_bytes name)) (take l.name-index l.names)
