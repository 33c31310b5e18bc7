-- The governor of each module, by the calls of a device, and the cases in which it isn't known. Our own choice.
use Rattle.std.specs.Prelude.{◌≡◌, ◌⊎◌, ◌==◌, ◌&&◌, not, Bool, true, false, List, [], ◌∷◌, ◌++◌, Option, Some, None, All, codes, drop, length, if◌then◌else◌}
use Rattle.std.specs.List.{Contains}
use Rattle.file_tree.specs.Files.{Faults, Files, Name, Tells, with_fault, with_faults}
use Rattle.file_tree.specs.Names.{begins}
use Rattle.file_tree.specs.Paths.{place}
use Rattle.file_tree.specs.declared.fault.TreeFault.{TreeFault}
use Rattle.file_tree.specs.declared.fault.TreeFault.TheVariants.{Missing}
use Rattle.file_tree.specs.declared.walk.Found.{Found}
use Rattle.module_find.specs.declared.module.Module.{Module}
use Rattle.module_config.specs.Governs.{Governs, ups}
use Rattle.module_config.specs.declared.governor.Governor.{Governor}
use Rattle.module_config.specs.declared.governor.Governor.TheVariants as governor
use Rattle.module_config.specs.declared.governor.Placed.{Placed}
use Rattle.module_config.specs.declared.start.Start.{Start}
use Rattle.module_config.specs.declared.start.Start.TheVariants as start

-- no call failed, except that some names don't exist
abbrev pub OnlyMissing : Faults → Faults → Type 0
OnlyMissing was is =
    (named_fault : List TreeFault) × All (λ fault. fault ≡ Missing) named_fault
    × (is ≡ with_faults was named_fault)

-- then one call failed, for this name
abbrev pub FailsAt : Faults → Faults → Found → Type 0
FailsAt was is f =
    (between : Faults) × OnlyMissing was between × (fault : TreeFault) × (f.fault ≡ Some fault)
    × (is ≡ with_fault between (Some fault))

-- a name that is looked up: the folder, for its full path; or `.git` or `.tfrules` in it or above it
abbrev pub IsAsked : Files → Name → Name → Type 0
IsAsked files folder name =
    (name ≡ folder)
    ⊎ ((path : Name) × Tells (files.path folder) path × (up : Name) × Contains (ups path) up
    × ((name ≡ up ++ codes ".git") ⊎ (name ≡ up ++ codes ".tfrules")))

-- the file that governs the modules of a folder, if the device tells its full path
abbrev pub IsGoverned : Files → Name → Name → Faults → Faults → Option Name → Type 0
IsGoverned files current folder was is file =
    OnlyMissing was is
    × ((path : Name) × Tells (files.path folder) path × Governs files current path file)

abbrev pub IsGovernor : Files → Name → Name → Faults → Faults → Governor → Type 0
IsGovernor files current folder was is governor.Free = IsGoverned files current folder was is None
IsGovernor files current folder was is (governor.File name) =
    IsGoverned files current folder was is (Some name.items)
IsGovernor files current folder was is (governor.Unknown f) =
    IsAsked files folder f.name.items × FailsAt was is f

-- a module is linted by options, unless it has no file, or something in it can't be looked at
abbrev pub wants : Module → Bool
wants m = not (length m.files.items == 0) && m.is_whole

-- where a run begins, which is looked up once, if it is needed
abbrev pub IsStart : Files → Bool → Faults → Faults → Start → Type 0
IsStart files needed was is start.Unneeded = (needed ≡ false) × (is ≡ was)
IsStart files needed was is (start.Unknown fault) =
    (needed ≡ true) × (is ≡ with_fault was (Some fault))
IsStart files needed was is (start.At path) =
    (needed ≡ true) × (is ≡ was) × Tells (files.path (codes "./")) path.items

abbrev pub IsNoted : Name → TreeFault → Governor → Type 0
IsNoted name fault (governor.Unknown f) = (f.name.items ≡ name) × (f.fault ≡ Some fault)
IsNoted name fault _ = ⊥

-- THE GOVERNOR of a module that is linted by options; other modules have none
abbrev pub IsPlaced : Bool → Files → Start → Name → Faults → Faults → Governor → Type 0
IsPlaced true files (start.At current) folder was is g =
    IsGovernor files current.items (place folder) was is g
IsPlaced true files (start.Unknown fault) folder was is g =
    IsNoted (codes "./") fault g × (is ≡ was)
IsPlaced _ files _ folder was is g = (g ≡ governor.Free) × (is ≡ was)

abbrev pub ArePlaced : Files → Start → List Module → List Placed → Faults → Faults → Type 0
ArePlaced files start [] [] was is = is ≡ was
ArePlaced files start (m ∷ ms) (p ∷ ps) was is =
    (between : Faults) × (p.module ≡ m)
    × IsPlaced (wants m) files start m.folder.items was between p.governor
    × ArePlaced files start ms ps between is
ArePlaced _ _ _ _ was is = ⊥

-- a full path as it is shown: from the current folder, if it is below it
abbrev pub shown_from : Start → Name → Name
shown_from (start.At current) path =
    if begins current.items path then drop (length current.items) path else path
shown_from _ path = path
