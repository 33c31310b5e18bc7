-- Which folders are modules, and which files are those of a module. Our own choice.
use Rattle.std.specs.Prelude.{◌≡◌, ◌⊎◌, ◌==◌, ℕ, ◌||◌, ◌&&◌, ◌-◌, not, Bool, true, false, List, [], ◌∷◌, ◌++◌, Option, Some, None, codes, flat_map, length, map, string_bytes, take, if◌then◌else◌}
use Rattle.std.specs.List.{Contains, list_all, suffix_len}
use Rattle.std.specs.Str.{is_utf8}
use Rattle.file_tree.specs.Files.{Faults, Files, Name}
use Rattle.file_tree.specs.Ordered.{HasName, Rises}
use Rattle.file_tree.specs.FolderFiles.{AreHeard, FindsIn}
use Rattle.file_tree.specs.Names.{ends, is_taken}
use Rattle.file_tree.specs.declared.fault.TreeFault.{TreeFault}
use Rattle.file_tree.specs.declared.fault.TreeFault.TheVariants.{DeadLink, Missing, NotAFile, NotUtf8}
use Rattle.file_tree.specs.declared.walk.Found.{Found}
use Rattle.file_tree.specs.declared.walk.FoundFile.{FoundFile}
use Rattle.file_tree.specs.declared.walk.ListedFolder.{ListedFolder}
use Rattle.module_find.specs.declared.module.Module.{Module}

-- a file of this name is one of a module
abbrev pub is_module_file : Name → Bool
is_module_file name = ends (codes ".tf") name || ends (codes ".tofu") name

-- THE FOLDER of a path, with the slash at its end: empty if it has none
abbrev pub folder_of : Name → Name
folder_of path = take (length path - suffix_len (λ b. not (b == 47)) path) path

-- ---- which folders are modules

-- a name that matters to a module: that of one of its files, or of a folder
abbrev pub is_of_module : Name → Bool
is_of_module name = is_module_file name || ends (codes "/") name

-- a name stands for its folder: a found name; and one that can't be looked at, if the module may lack that file
abbrev pub stands_by : Option TreeFault → Name → Bool
stands_by None name = true
stands_by (Some fault) name = is_of_module name

abbrev pub stands : Found → Bool
stands f = stands_by f.fault f.name.items

-- THE FOLDERS that names stand for: nothing else, and none left out
pub record AreFoldersOf (found folders : List Found) : Type 0 where
  pub good : (d : Found) → Contains folders d → d.fault ≡ None
  pub real : (d : Found) → Contains folders d
      → (f : Found) × Contains found f × (stands f ≡ true) × (d.name.items ≡ folder_of f.name.items)
  pub all : (f : Found) → Contains found f → stands f ≡ true
      → (d : Found) × Contains folders d × (d.name.items ≡ folder_of f.name.items)

-- in the order of their names, each once
abbrev pub AreFolders : List Found → List Found → Type 0
AreFolders found folders = Rises folders × AreFoldersOf found folders

-- ---- reported names

-- a name, and why it can't be looked at
abbrev pub told_as : Found → Name × Option TreeFault
told_as f = (f.name.items, f.fault)

-- these are reported, each once, in the order of their names
pub record AreTold (lost told : List Found) : Type 0 where
  pub rises : Rises told
  pub only : (f : Found) → Contains told f → (g : Found) × Contains lost g × (told_as g ≡ told_as f)
  pub all : (name : Name) → HasName lost name → HasName told name

abbrev pub is_missing : TreeFault → Bool
is_missing Missing = true
is_missing fault = false

abbrev pub is_dead_link : TreeFault → Bool
is_dead_link DeadLink = true
is_dead_link fault = false

-- a name of files that are formatted and that aren't a module's
abbrev pub is_other_file : Name → Bool
is_other_file name = is_taken name && not (is_module_file name)

-- a link of such a name that leads nowhere
abbrev pub is_no_matter : TreeFault → Name → Bool
is_no_matter fault name = is_dead_link fault && is_other_file name

-- each name that can't be looked at is reported, except these
abbrev pub is_lost_by : Option TreeFault → Name → Bool
is_lost_by None name = false
is_lost_by (Some fault) name = not (is_no_matter fault name)

abbrev pub is_lost : Found → Bool
is_lost f = is_lost_by f.fault f.name.items

abbrev pub lost_in : Found → List Found
lost_in f = if is_lost f then f ∷ [] else []

-- a file of a module that doesn't exist, and so stands for its folder
abbrev pub is_gone_by : Option TreeFault → Name → Bool
is_gone_by None name = false
is_gone_by (Some fault) name = is_missing fault && is_module_file name

-- THE REPORTS for the found names: a deleted file isn't among them, since its folder stands for it
abbrev pub lost_of : Found → List Found
lost_of f = if is_lost f && not (is_gone_by f.fault f.name.items) then f ∷ [] else []

-- ---- one module

-- why the entry under this name is no file of a module that can be linted, if it can't be
abbrev pub name_fault : Option FoundFile → Name → Option TreeFault
name_fault None name = if is_module_file name then Some NotAFile else None
name_fault (Some file) name =
    if is_module_file name && not (is_utf8 name) then Some NotUtf8 else None

abbrev pub fault_by : Option TreeFault → Option FoundFile → Name → Option TreeFault
fault_by None file name = name_fault file name
fault_by (Some fault) file name = Some fault

-- the found name, with the reason why it can't be linted
abbrev pub judge : Found → Found
judge f = record f { fault = fault_by f.fault f.file f.name.items }

-- it is a file of the module
abbrev pub is_file_by : Option TreeFault → Name → Bool
is_file_by None name = is_module_file name
is_file_by (Some fault) name = false

abbrev pub file_in : Found → List Name
file_in f = if is_file_by (judge f).fault f.name.items then f.name.items ∷ [] else []

-- the module isn't whole without it: it can't be linted, and is a file of the module, or a folder
abbrev pub breaks_by : Option TreeFault → Name → Bool
breaks_by None name = false
breaks_by (Some fault) name = is_of_module name

abbrev pub is_sound : Found → Bool
is_sound f = not (breaks_by (judge f).fault f.name.items)

abbrev pub told_in : Found → List Found
told_in f = lost_in (judge f)

-- the module of a folder with these entries: its files, and whether it is whole; and the reports for the folder
pub record IsModuleOf (name : Name) (found : List Found) (m : Module) (told : List Found) : Type 0
  where
    pub folder : m.folder.items ≡ name
    pub files : map string_bytes m.files.items ≡ flat_map file_in found
    pub whole : m.is_whole ≡ list_all is_sound found
    pub lost : map told_as told ≡ map told_as (flat_map told_in found)

-- the entries of a folder: it was listed before, or it is now, and then the device has these faults before and after
abbrev pub StandsIn : Files → List ListedFolder → Name → List Found → Faults → Faults → Type 0
StandsIn files looked folder found was is =
    ((is ≡ was)
    × ((l : ListedFolder) × Contains looked l × (l.folder.items ≡ folder)
    × (l.found.items ≡ found)))
    ⊎ (FindsIn files folder found × AreHeard was is found)

-- A MODULE has the entries of its folder
abbrev pub IsModule : Files → List ListedFolder → Name → Module → List Found → Faults → Faults
    → Type 0
IsModule files looked folder m told was is =
    (found : List Found) × StandsIn files looked folder found was is
    × IsModuleOf folder found m told

-- THE MODULES of folders, and all reports for these
abbrev pub AreModules : Files → List ListedFolder → List Found → List Module → List Found → Faults
    → Faults → Type 0
AreModules files looked [] [] told was is = (told ≡ []) × (is ≡ was)
AreModules files looked (d ∷ ds) (m ∷ ms) told was is =
    (here rest : List Found) × (between : Faults) × (told ≡ here ++ rest)
    × IsModule files looked d.name.items m here was between
    × AreModules files looked ds ms rest between is
AreModules _ _ _ _ told was is = ⊥

-- the bytes of the file to which a name leads
abbrev pub bytes_of_name : Files → Name → Option (List ℕ)
bytes_of_name files name = files.told (files.real name)

-- the names of a module's files
abbrev pub names_in : Module → List Name
names_in m = map string_bytes m.files.items

-- the module of one folder
pub record AreAlone (files : Files) (folder : Name) (modules : List Module) : Type 0 where
  pub named : Found
  pub name : named.name.items ≡ folder
  pub told : List Found
  pub was : Faults
  pub is : Faults
  pub are : AreModules files [] (named ∷ []) modules told was is
