-- What a tree whose calls fail by a plan tells. Our own choice.
use Rattle.std.specs.Prelude.{List, [], ◌∷◌, Option, Some, None, find, option_map}
use Rattle.std.specs.Str.{bytes_eq}
use Rattle.file_tree.specs.Files.{Files, Name}
use Rattle.file_tree.specs.declared.fault.TreeFault.{TreeFault}
use Rattle.tree_devices.specs.declared.planned_tree.PlannedName.{PlannedName}

-- the first row of a name
abbrev pub planned_in : List PlannedName → Name → Option PlannedName
planned_in rows name = find (λ row. bytes_eq name row.name.now) rows

abbrev pub planned_files : List PlannedName → Files
planned_files rows = record {
  kind = λ name. option_map (λ row. row.kind) (planned_in rows name);
  entry = λ name. None;  -- a call may say by its plan that nothing stands there
  listing = λ name. Some [];
  real = λ name. name;
  told = λ name. None;
  path = λ name. None;
}

-- the faults of the calls that took these places
abbrev pub planned_faults : List (Option TreeFault) → List TreeFault
planned_faults [] = []
planned_faults (None ∷ plan) = planned_faults plan
planned_faults (Some fault ∷ plan) = fault ∷ planned_faults plan
