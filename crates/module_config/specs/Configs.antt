-- The known options of modules before they are linted. Our own choice.
use Rattle.std.specs.Prelude.{◌≡◌, ◌&&◌, ◌-◌, ℕ, Bool, List, [], ◌∷◌, Option, Some, None, flat_map, length, map}
use Rattle.std.specs.List.{list_any}
use Rattle.file_tree.specs.Files.{Faults, Files, Name, Tells, with_fault}
use Rattle.file_tree.specs.Ordered.{Orders}
use Rattle.file_tree.specs.declared.fault.TreeFault.{TreeFault}
use Rattle.file_tree.specs.declared.walk.Found.{Found}
use Rattle.hcl_source.specs.Load.{IsLoadFault, IsText}
use Rattle.module_config.specs.Readings.{read_of}
use Rattle.module_config.specs.Lines.{Options}
use Rattle.module_config.specs.Reads.{read_text}
use Rattle.module_find.specs.declared.module.Module.{Module}
use Rattle.module_find.specs.Modules.{bytes_of_name}
use Rattle.module_config.specs.Governors.{ArePlaced, IsStart, wants}
use Rattle.module_config.specs.Settled.{governed_in, pair_of}
use Rattle.module_config.specs.declared.config_file.ConfigFile.{ConfigFile}
use Rattle.module_config.specs.declared.config_file.ConfigText.{ConfigText}
use Rattle.module_config.specs.declared.config_file.ConfigText.TheVariants.{Says, Refused, Unread}
use Rattle.module_config.specs.declared.configure.Configured.{Configured}
use Rattle.module_config.specs.declared.governor.Governor.{Governor}
use Rattle.module_config.specs.declared.governor.Governor.TheVariants as governor
use Rattle.module_config.specs.declared.governor.Placed.{Placed}

-- the contents of a file, which are these bytes if the device tells them
abbrev pub IsRead : Files → Name → Faults → Faults → ConfigText → Type 0
IsRead files name was is (Says config) =
    (is ≡ was)
    × ((text : List ℕ) × Tells (bytes_of_name files name) text × IsText text
    × (read_of config ≡ read_text text))
IsRead files name was is (Refused fault) =
    (is ≡ was)
    × ((bytes : List ℕ) × Tells (bytes_of_name files name) bytes × IsLoadFault bytes fault)
IsRead files name was is (Unread fault) = is ≡ with_fault was (Some fault)

abbrev pub AreRead : Files → List Found → List ConfigFile → Faults → Faults → Type 0
AreRead files [] [] was is = is ≡ was
AreRead files (f ∷ fs) (c ∷ cs) was is =
    (between : Faults) × (c.name.items ≡ f.name.items)
    × IsRead files c.name.items was between c.text × AreRead files fs cs between is
AreRead _ _ _ was is = ⊥

-- these names in their order, each once, and why one can't be looked at
abbrev pub noted_of : Found → Name × Option TreeFault
noted_of f = (f.name.items, f.fault)

abbrev pub AreInOrder : List (Name × Option TreeFault) → List Found → Type 0
AreInOrder names ordered = (all : List Found) × (map noted_of all ≡ names) × Orders all ordered

-- the file that governs a module
abbrev pub file_in : Governor → List (Name × Option TreeFault)
file_in (governor.File name) = (name.items, None) ∷ []
file_in _ = []

-- the name because of which the governor isn't known
abbrev pub failure_in : Governor → List (Name × Option TreeFault)
failure_in (governor.Unknown f) = (f.name.items, f.fault) ∷ []
failure_in _ = []

-- THE KNOWN OPTIONS of these modules, with these on the line: each governing file was read once, and each failed call
-- is noted. The modules whose options aren't known are counted, and the others are linted.
pub record Configures (files : Files) (line : Options) (reads : Bool) (modules : List Module)
    (was is : Faults) (c : Configured) : Type 0 where
  pub begun : Faults
  pub start : IsStart files (reads && list_any wants modules) was begun c.start
  pub placed : List Placed
  pub looked : Faults
  pub places : ArePlaced files c.start modules placed begun looked
  pub failures : AreInOrder (flat_map (λ p. failure_in p.governor) placed) c.failures.items
  pub named : List Found
  pub names : AreInOrder (flat_map (λ p. file_in p.governor) placed) named
  pub read : AreRead files named c.files.items looked is
  pub governed : map pair_of c.governed.items ≡ flat_map (governed_in line c.files.items) placed
  pub unlinted : c.unlinted ≡ length modules - length c.governed.items
