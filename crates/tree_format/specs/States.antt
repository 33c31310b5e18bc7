-- What a device tells at one time: its files, the faults of its calls, and the replacements that were asked for.
use Rattle.file_tree.specs.Asked.{Asked}
use Rattle.file_tree.specs.Files.{Faults, Files}
use Rattle.file_tree.specs.declared.tree.Tree.{Ghosts}

pub record State : Type 0 where
  pub files : Files
  pub faults : Faults
  pub asked : Asked

-- the state of a device, by the ghosts of its trait
abbrev pub state_of : {D R : Type 0} → Ghosts D R → D → State
state_of tree device =
    record { files = tree.files device; faults = tree.faults device; asked = tree.asked device }
