-- The files of one folder, without exclusions, and without those in folders below it.
use Rattle.std.specs.Prelude.{◌≡◌, ◌⊎◌, true, false, List, ◌++◌, Option, Some, None}
use Rattle.std.specs.List.{Contains}
use Rattle.file_tree.specs.Below.{HasFile, IsEntry, maybe, surely}
use Rattle.file_tree.specs.Choices.{whole_tree}
use Rattle.file_tree.specs.Files.{Faults, Files, Name}
use Rattle.file_tree.specs.Finds.{Failure, IsEntryBy, with_failures}
use Rattle.file_tree.specs.Ordered.{HasName, Rises}
use Rattle.file_tree.specs.Paths.{place}
use Rattle.file_tree.specs.declared.fault.TreeFault.{TreeFault}
use Rattle.file_tree.specs.declared.walk.Found.{Found}
use Rattle.file_tree.specs.declared.walk.FoundFile.{FoundFile}

-- a file of the folder, or a pipe, a socket or a device under the name of one; or a reported name: that of the folder,
-- or of an entry in it
abbrev pub IsInBy : Files → Name → Name → Option TreeFault → Option FoundFile → Type 0
IsInBy files folder name None file =
    (last : Name) × HasFile maybe files whole_tree folder last × (name ≡ folder ++ last)
    × IsEntryBy files whole_tree name file
IsInBy files folder name (Some fault) file =
    (name ≡ place folder)
    ⊎ ((last : Name) × IsEntry maybe files whole_tree folder last × (name ≡ folder ++ last))

-- THE FILES OF A FOLDER, by what the device tells: in the order of their names, each once, nothing else, and none
-- passed over without a report
pub record FindsIn (files : Files) (folder : Name) (found : List Found) : Type 0 where
  pub rises : Rises found
  pub real : (f : Found) → Contains found f → IsInBy files folder f.name.items f.fault f.file
  pub all : (last : Name) → HasFile surely files whole_tree folder last
      → HasName found (place folder)
      ⊎ HasName found (folder ++ last)

-- EACH REPORT IS REAL: if the device tells the faults of its calls, each reported name has that of a failed call of its
-- own
pub record AreHeard (before after : Faults) (found : List Found) : Type 0 where
  pub noted : List Failure  -- the calls that failed
  pub is : after ≡ with_failures before noted
  pub real : (f : Found) (fault : TreeFault) → Contains found f → f.fault ≡ Some fault
      → Contains noted (record { name = f.name.items; fault = fault })
