-- The search for the governing file.
use Rattle.std.specs.Prelude.{◌≡◌, ◌==◌, ◌⊎◌, ◌||◌, ◌++◌, ◌-◌, ℕ, Bool, true, false, List, [], ◌∷◌, Some, None, codes, get_or, take, if◌then◌else◌}
use Rattle.std.specs.List.{Contains}
use Rattle.std.specs.Str.{bytes_eq}
use Rattle.file_tree.specs.Files.{Faults, Files, Name, Tells}
use Rattle.file_tree.specs.Names.{begins}
use Rattle.file_tree.specs.declared.kind.Kind.{Kind}
use Rattle.module_config.specs.Governs.{IsFirst, ups}
use Rattle.module_config.specs.Governors.{FailsAt, OnlyMissing}
use Rattle.file_tree.specs.declared.fault.TreeFault.{TreeFault}
use Rattle.module_config.specs.declared.governor.Governor.{Governor}
use Rattle.module_config.specs.declared.governor.Governor.TheVariants as governor
use Rattle.module_config.specs.declared.first.Stuck.{Stuck}
use Rattle.module_config.specs.declared.first.Stuck.TheVariants as stuck

-- the folder that ends before this byte of a path, if one does
abbrev pub up_at : Name → ℕ → List Name
up_at path end = if get_or path (end - 1) 0 == 47 then take end path ∷ [] else []

-- the folder's `.tfrules` counts outside a repository
abbrev pub counts : Name → Name → Name → Bool
counts current own folder = bytes_eq folder own || begins current folder

-- memory ran out, or a call failed for such a name
abbrev pub StuckBy : (Name → Type 0) → Faults → Faults → Stuck → Type 0
StuckBy P was is stuck.OutOfMemory = Unit {0}
StuckBy P was is (stuck.Failed f) = P f.name.items × FailsAt was is f

abbrev pub LooksUp : Files → Name → Faults → Faults → Bool → Type 0
LooksUp files name was is true = (is ≡ was) × ((kind : Kind) × Tells (files.entry name) kind)
LooksUp files name was is false = OnlyMissing was is × (files.entry name ≡ None)

abbrev pub LooksFirst : Files → Name → List Name → Faults → Faults → ℕ → Type 0
LooksFirst files entry folders was is n = OnlyMissing was is × IsFirst files entry folders n

-- the name of an entry of one of these folders
abbrev pub IsEntryOf : Name → List Name → Name → Type 0
IsEntryOf entry folders name = (folder : Name) × Contains folders folder × (name ≡ folder ++ entry)

-- a name that is looked up in the folder of this full path or above it
abbrev pub IsAskedIn : Name → Name → Type 0
IsAskedIn path name = (up : Name) × Contains (ups path) up × ((name ≡ up ++ codes ".git") ⊎ (name ≡ up ++ codes ".tfrules"))

abbrev pub IsStuckOf : Name → TreeFault → Stuck → Type 0
IsStuckOf name fault stuck.OutOfMemory = Unit {0}
IsStuckOf name fault (stuck.Failed f) = (f.name.items ≡ name) × (f.fault ≡ Some fault)

abbrev pub IsUnknownBy : Stuck → Governor → Type 0
IsUnknownBy (stuck.Failed f) (governor.Unknown g) = g ≡ f
IsUnknownBy _ _ = ⊥
