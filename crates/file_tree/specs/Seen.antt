-- The entries that names stand for, and those of each folder that was listed for them.
use Rattle.std.specs.Prelude.{List, ◌++◌, flat_map}
use Rattle.std.specs.List.{Contains}
use Rattle.file_tree.specs.Choices.{any}
use Rattle.file_tree.specs.Files.{Faults, Files, Name}
use Rattle.file_tree.specs.Finds.{AreReal, Finds}
use Rattle.file_tree.specs.FolderFiles.{FindsIn}
use Rattle.file_tree.specs.Ordered.{Orders}
use Rattle.file_tree.specs.declared.walk.Found.{Found}
use Rattle.file_tree.specs.declared.walk.ListedFolder.{ListedFolder}

-- the entries found for the names themselves, and then in folders
abbrev pub all_found : List Found → List ListedFolder → List Found
all_found named looked = named ++ flat_map (λ l. l.found.items) looked

-- WHAT PATHS STAND FOR, by what the device tells, and by its faults before and after: in order, these are the files
-- that they stand for, each report is real, and in each folder that was listed they are its files
pub record Sees (files : Files) (paths : List Name) (was is : Faults) (named : List Found)
    (looked : List ListedFolder) : Type 0 where
  pub finds : (found : List Found) → Orders (all_found named looked) found
      → Finds files any paths found
  pub real : AreReal files any paths was is (all_found named looked)
  pub each : (l : ListedFolder) → Contains looked l → FindsIn files l.folder.items l.found.items
