-- Whether a file of a tree is open.
use Rattle.std.specs.Prelude.{◌≡◌, Bool, false}
use Rattle.file_tree.specs.Unchanged.{Unchanged}
use Rattle.file_tree.specs.declared.tree.Tree.{Ghosts}
use Rattle.tree_lint.specs.declared.module_tree.ModuleTree.{ModuleTree}

abbrev pub has_reader_out : {T : Type 0} → ModuleTree T → Bool
has_reader_out files = files.is_out

-- the tree is unchanged, and no file of it is left open
abbrev pub Leaves : {T R : Type 0} → Ghosts T R → ModuleTree T → ModuleTree T → Type 0
Leaves tree old new = Unchanged tree old.tree new.tree × (has_reader_out new ≡ false)
