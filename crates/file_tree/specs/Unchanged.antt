-- That a tree stays as it is.
use Rattle.std.specs.Prelude.{◌≡◌}
use Rattle.file_tree.specs.declared.tree.Tree.{Ghosts}

-- no file or folder is changed, and nothing is asked to be
abbrev pub Unchanged : {T R : Type 0} → Ghosts T R → T → T → Type 0
Unchanged tree old new = (tree.files new ≡ tree.files old) × (tree.asked new ≡ tree.asked old)
