-- The results of walks over trees in memory.
use Rattle.std.specs.Prelude.{◌≡◌, ◌⊎◌, List, Some, map}
use Rattle.std.specs.List.{Contains}
use Rattle.file_tree.specs.Choices.{Chosen}
use Rattle.file_tree.specs.Files.{Faults, Files, Name}
use Rattle.file_tree.specs.Finds.{Failure, IsOtherIn}
use Rattle.file_tree.specs.declared.fault.TreeFault.{TreeFault}
use Rattle.file_tree.specs.declared.walk.Found.{Found}

-- the tree told all its failed calls, with the names under which they are reported; each reported name is one of these,
-- with its fault, or is of another kind
pub record AreOfCalls (files : Files) (chosen : Chosen) (paths : List Name) (told : Faults)
    (found : List Found) : Type 0 where
  pub noted : List Failure
  pub all : told ≡ Some (map (λ failure. failure.fault) noted)
  pub real : (f : Found) (fault : TreeFault) → Contains found f → f.fault ≡ Some fault
      → Contains noted (record { name = f.name.items; fault = fault })
      ⊎ IsOtherIn files chosen paths f.name.items fault
