-- The effect of one more name.
use Rattle.std.specs.Prelude.{◌≡◌, ◌⊎◌, ◌&&◌, Bool, true, false, List, [], ◌∷◌, ◌++◌, Option, None, map, string_bytes, if◌then◌else◌}
use Rattle.file_tree.specs.Files.{Faults, Files, Name}
use Rattle.file_tree.specs.Ordered.{HasName}
use Rattle.file_tree.specs.declared.fault.TreeFault.{TreeFault}
use Rattle.file_tree.specs.declared.walk.Found.{Found}
use Rattle.file_tree.specs.declared.walk.ListedFolder.{ListedFolder}
use Rattle.module_find.specs.Modules.{IsModule, file_in, folder_of, is_lost_by, is_sound, told_as, told_in}
use Rattle.module_find.specs.declared.module.Module.{Module}
use Rattle.module_find.specs.declared.modules.Modules.{Modules}
use Rattle.module_find.specs.declared.modules.Sorted.{Sorted}

-- the folder of the found name is added, if the name stands for it, unless it was added before
abbrev pub AddsFolder : Bool → Found → List Found → List Found → Type 0
AddsFolder true f old new = ((d : Found) × (d.name.items ≡ folder_of f.name.items) × (d.fault ≡ None) × (new ≡ old ++ d ∷ [])) ⊎ ((new ≡ old) × HasName old (folder_of f.name.items))
AddsFolder false f old new = new ≡ old

-- a name with a fault, if that is reported
abbrev pub told_by : Name × Option TreeFault → List (Name × Option TreeFault)
told_by t = if is_lost_by t.1 t.0 then t ∷ [] else []

-- the found name is a file of the module, or can't be linted, or is neither
pub record TakesFound (f : Found) (old new : Sorted) : Type 0 where
  pub folder : new.module.folder ≡ old.module.folder
  pub files : map string_bytes new.module.files.items ≡ map string_bytes old.module.files.items ++ file_in f
  pub whole : new.module.is_whole ≡ (old.module.is_whole && is_sound f)
  pub faults : map told_as new.faults.items ≡ map told_as old.faults.items ++ map told_as (told_in f)

abbrev pub AddsModule : Files → List ListedFolder → Name → Modules → Modules → Faults → Faults → Type 0
AddsModule files looked folder old new was is =
    (m : Module) × (here : List Found) × IsModule files looked folder m here was is × (new.modules.items ≡ old.modules.items ++ m ∷ []) × (new.faults.items ≡ old.faults.items ++ here)
