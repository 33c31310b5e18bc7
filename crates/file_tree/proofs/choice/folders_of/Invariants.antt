use Rattle.std.proofs.Common.{◌≡◌, map, take}
use Rattle.file_tree.specs.Paths.{top}
use Rattle.file_tree.proofs.choice.folders_of.Given as goal

-- the paths so far were added
abbrev pub invariant-loop-path : goal.invariant-loop-path
invariant-loop-path l = map (λ f. f.items) l.folders.items ≡ map top (map (λ p. p.now) (take l.path-index l.paths))
