-- The answer of a walk: the names to be looked at, and the names reported because they can't be.
use Rattle.std.specs.Prelude.{◌≡◌, ◌⊎◌, Bool, true, false, List, [], ◌∷◌, ◌++◌, Option, Some, None, map}
use Rattle.std.specs.List.{Contains}
use Rattle.file_tree.specs.Below.{IsBelow, IsEntry, IsNamed, IsOther, IsSpecial, Leads, Says, maybe, surely}
use Rattle.file_tree.specs.Choices.{Chosen, is_excluded}
use Rattle.file_tree.specs.Files.{Faults, Files, Name, identity_of, is_link, with_faults}
use Rattle.file_tree.specs.Ordered.{HasName, IsFound, Rises}
use Rattle.file_tree.specs.Paths.{inside, place, report_name, tidy_path, top, within}
use Rattle.file_tree.specs.declared.fault.TreeFault.{TreeFault}
use Rattle.file_tree.specs.declared.fault.TreeFault.TheVariants.{OtherKind}
use Rattle.file_tree.specs.declared.kind.Identity.{Identity}
use Rattle.file_tree.specs.declared.kind.Kind.{Kind}
use Rattle.file_tree.specs.declared.kind.Kind.TheVariants.{File, Folder, Link}
use Rattle.file_tree.specs.declared.walk.Found.{Found}
use Rattle.file_tree.specs.declared.walk.FoundFile.{FoundFile}

-- ---- nothing else

-- a given folder, or one below it
abbrev pub IsFolderOf : Files → Chosen → Name → Name → Type 0
IsFolderOf files chosen path folder =
    (parts : List Name) × Says maybe (files.kind path) Folder
    × Leads maybe files chosen (top path) parts × (folder ≡ within (top path) parts)
    × (is_excluded chosen (tidy_path path) ≡ false)

-- the file of a given path, by the kind of its name: the name may be a link to the file. None if it is no file
abbrev pub IsNamedBy : Files → Name → Option FoundFile → Type 0
IsNamedBy files path (Some file) =
    Says maybe (files.kind path) (File file.identity)
    × ((entry : Kind) × Says maybe (files.entry (tidy_path path)) entry
    × (file.is_link ≡ is_link entry))
IsNamedBy files path None =
    (kind : Kind) × Says maybe (files.kind path) kind × (identity_of kind ≡ None)

-- the file of an entry, and whether the entry is a link to it
abbrev pub IsEntryIf : Bool → Files → Name → Identity → Type 0
IsEntryIf true files name identity =
    Says maybe (files.entry name) Link × Says maybe (files.kind name) (File identity)
IsEntryIf false files name identity = Says maybe (files.entry name) (File identity)

-- the file of an entry that is taken; a pipe, a socket or a device has none
abbrev pub IsEntryBy : Files → Chosen → Name → Option FoundFile → Type 0
IsEntryBy files chosen name (Some file) = IsEntryIf file.is_link files name file.identity
IsEntryBy files chosen name None = (chosen.specials ≡ true) × IsSpecial maybe files name

-- what a path stands for: itself, or a file below
abbrev pub IsFileOf : Files → Chosen → Name → Name → Option FoundFile → Type 0
IsFileOf files chosen path name file =
    (IsNamed maybe files chosen path × (name ≡ tidy_path path) × IsNamedBy files path file)
    ⊎ ((parts : List Name) × (last : Name) × IsBelow maybe files chosen path parts last
    × (name ≡ within (top path) parts ++ last) × IsEntryBy files chosen name file)

-- a reported name: that of the path, of its folder or of one below, or of an entry there
abbrev pub IsReportOf : Files → Chosen → Name → Name → Type 0
IsReportOf files chosen path name =
    ((name ≡ report_name path) × (is_excluded chosen (tidy_path path) ≡ false))
    ⊎ ((folder : Name) × IsFolderOf files chosen path folder
    × ((name ≡ place folder)
    ⊎ ((last : Name) × IsEntry maybe files chosen folder last × (name ≡ folder ++ last))))

-- a file reported because its name isn't of a kind that is taken: that of the path
abbrev pub IsOtherOf : Files → Chosen → Name → Name → TreeFault → Type 0
IsOtherOf files chosen path name fault =
    IsOther maybe files chosen path × (name ≡ tidy_path path) × (fault ≡ OtherKind)

abbrev pub IsOfBy : Files → Chosen → Name → Name → Option TreeFault → Option FoundFile → Type 0
IsOfBy files chosen path name None file = IsFileOf files chosen path name file
IsOfBy files chosen path name (Some fault) file =
    (IsReportOf files chosen path name ⊎ IsOtherOf files chosen path name fault) × (file ≡ None)

-- the found name comes from one of the paths
abbrev pub IsOf : Files → Chosen → List Name → Found → Type 0
IsOf files chosen paths f =
    (path : Name) × Contains paths path × IsOfBy files chosen path f.name.items f.fault f.file

abbrev pub IsOtherIn : Files → Chosen → List Name → Name → TreeFault → Type 0
IsOtherIn files chosen paths name fault =
    (path : Name) × Contains paths path × IsOtherOf files chosen path name fault

-- ---- none passed over

-- a name below a folder is in the answer, or a name above it is: the folder's entries were found, or it was reported
abbrev pub Accounts : (Name → Type 0) → Name → List Name → Name → Type 0
Accounts told folder [] last = told (place folder) ⊎ told (folder ++ last)
Accounts told folder (part ∷ parts) last =
    told (place folder) ⊎ (told (folder ++ part) ⊎ Accounts told (inside folder part) parts last)

-- THE FILES THAT PATHS STAND FOR, by what the device tells: their names in order, each once, nothing else, and none
-- passed over unless it is excluded. A named file is in the answer whatever its name
pub record Finds (files : Files) (chosen : Chosen) (paths : List Name) (found : List Found) : Type 0
  where
    pub rises : Rises found
    pub real : (f : Found) → Contains found f → IsOf files chosen paths f
    pub given : (path : Name) → Contains paths path → IsNamed surely files chosen path
        → IsFound found (tidy_path path) ⊎ HasName found (report_name path)
    pub other : (path : Name) → Contains paths path → IsOther surely files chosen path
        → HasName found (tidy_path path) ⊎ HasName found (report_name path)
    pub below : (path : Name) (parts : List Name) (last : Name) → Contains paths path
        → IsBelow surely files chosen path parts last
        → HasName found (report_name path) ⊎ Accounts (HasName found) (top path) parts last

-- ---- reported only after a failed call, or for its name

-- a failed call: the name under which it is reported, and the reason
pub record Failure : Type 0 where
  pub name : Name
  pub fault : TreeFault

-- these faults, and then those of such calls
abbrev pub with_failures : Faults → List Failure → Faults
with_failures faults noted = with_faults faults (map (λ failure. failure.fault) noted)

-- EACH REPORT IS REAL: if the device tells the faults of its calls, each reported name has that of a failed call of its
-- own, or it is a named file that isn't of a kind that is taken. So there are no more reports than failed calls, and
-- none if no call failed.
pub record AreReal (files : Files) (chosen : Chosen) (paths : List Name) (before after : Faults)
    (found : List Found) : Type 0 where
  pub noted : List Failure  -- the walk's calls that failed
  pub is : after ≡ with_failures before noted
  pub real : (f : Found) (fault : TreeFault) → Contains found f → f.fault ≡ Some fault
      → Contains noted (record { name = f.name.items; fault = fault })
      ⊎ IsOtherIn files chosen paths f.name.items fault
