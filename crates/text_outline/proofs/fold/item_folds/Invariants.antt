use Rattle.std.proofs.Common.{◌≡◌, ◌++◌, drop, flat_map}
use Rattle.text_outline.specs.Folds.{fold_of}
use Rattle.text_outline.proofs.fold.item_folds.Given as goal

abbrev pub invariant-loop-number : goal.invariant-loop-number
invariant-loop-number l = l.folds.items ++ flat_map (fold_of l.accepted) (drop l.number l.items) ≡ flat_map (fold_of l.accepted) l.items
