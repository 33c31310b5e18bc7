use Rattle.std.proofs.Common.{◌≡◌, map, take}
use Rattle.tree_words.proofs.options.names_of.Given as goal

abbrev pub invariant-loop-name : goal.invariant-loop-name
invariant-loop-name l = map (λ name. name.now) l.names.items ≡ map (λ name. name.now) (take l.name-index l.given)
