-- What an operand stands for: itself, or the files in it and below.
use Rattle.std.specs.Prelude.{◌≡◌, ◌≢◌, ◌⊎◌, ℕ, ◌==◌, ◌&&◌, not, Bool, true, false, List, [], ◌∷◌, ◌++◌, Option, Some, length}
use Rattle.std.specs.List.{Contains, slice_split}
use Rattle.file_tree.specs.Choices.{Chosen, is_excluded, is_wanted}
use Rattle.file_tree.specs.Files.{Files, Name}
use Rattle.hcl_source.specs.Devices.{Tells}
use Rattle.file_tree.specs.Names.{is_passed_over, is_taken}
use Rattle.file_tree.specs.Paths.{inside, place, tidy_path, top, within}
use Rattle.file_tree.specs.declared.kind.Identity.{Identity}
use Rattle.file_tree.specs.declared.kind.Kind.{Kind}
use Rattle.file_tree.specs.declared.kind.Kind.TheVariants.{File, Folder, Link, Other}

-- how certain something must be: the device says so, or it says nothing else
pub data Certainty : Type 0 where
  surely maybe : Certainty

-- the device says that it is this; or, if it may be, it may also say nothing
abbrev pub Says : {X : Type 0} → Certainty → Option X → X → Type 0
Says surely told x = told ≡ Some x
Says maybe told x = Tells told x

-- the names that a listing has, each ended by NUL
abbrev pub names_in_listing : List ℕ → List Name
names_in_listing listing = slice_split (λ b. b == 0) listing

-- a name that is looked at if the walk meets it in a folder
abbrev pub is_met : Chosen → Name → Name → Bool
is_met chosen folder name =
    not (length name == 0) && not (is_passed_over name) && not (is_excluded chosen (folder ++ name))

-- a folder has this name, and the name is one to be looked at
abbrev pub IsEntry : Certainty → Files → Chosen → Name → Name → Type 0
IsEntry sure files chosen folder name =
    (listing : List ℕ) × Says sure (files.listing (place folder)) listing
    × Contains (names_in_listing listing) name × (is_met chosen folder name ≡ true)

-- a folder has a folder of this name
abbrev pub HasFolder : Certainty → Files → Chosen → Name → Name → Type 0
HasFolder sure files chosen folder name =
    IsEntry sure files chosen folder name × Says sure (files.entry (folder ++ name)) Folder

-- a path is no folder, links followed
abbrev pub IsGiven : Certainty → Files → Name → Type 0
IsGiven sure files path = (kind : Kind) × Says sure (files.kind path) kind × (kind ≢ Folder)

-- A NAMED FILE that is taken
abbrev pub IsNamed : Certainty → Files → Chosen → Name → Type 0
IsNamed sure files chosen path =
    IsGiven sure files path × (is_wanted chosen (tidy_path path) ≡ true)
    × (is_excluded chosen (tidy_path path) ≡ false)

-- a named file whose name isn't of a kind that is taken
abbrev pub IsOther : Certainty → Files → Chosen → Name → Type 0
IsOther sure files chosen path =
    IsGiven sure files path × (is_wanted chosen (tidy_path path) ≡ false)
    × (is_excluded chosen (tidy_path path) ≡ false)

-- an entry is a file, or a link that leads to one
abbrev pub IsFile : Certainty → Files → Name → Type 0
IsFile sure files name =
    ((identity : Identity) × Says sure (files.entry name) (File identity))
    ⊎ (Says sure (files.entry name) Link
    × ((identity : Identity) × Says sure (files.kind name) (File identity)))

-- an entry is a pipe, a socket or a device, or a link that leads to one
abbrev pub IsSpecial : Certainty → Files → Name → Type 0
IsSpecial sure files name =
    Says sure (files.entry name) Other
    ⊎ (Says sure (files.entry name) Link × Says sure (files.kind name) Other)

-- an entry is a file; or a pipe, a socket or a device, if these are taken
abbrev pub IsFileFor : Certainty → Files → Chosen → Name → Type 0
IsFileFor sure files chosen name =
    IsFile sure files name ⊎ ((chosen.specials ≡ true) × IsSpecial sure files name)

-- a folder has such an entry of this name, and the name is taken
abbrev pub HasFile : Certainty → Files → Chosen → Name → Name → Type 0
HasFile sure files chosen folder name =
    IsEntry sure files chosen folder name × IsFileFor sure files chosen (folder ++ name)
    × (is_taken name ≡ true)

-- these parts of a name lead down from a folder, each a folder in the one before
abbrev pub Leads : Certainty → Files → Chosen → Name → List Name → Type 0
Leads sure files chosen folder [] = Unit {0}
Leads sure files chosen folder (part ∷ parts) =
    HasFolder sure files chosen folder part × Leads sure files chosen (inside folder part) parts

-- A FILE BELOW a given folder: these parts lead down to its folder, and this is the last part of its name
abbrev pub IsBelow : Certainty → Files → Chosen → Name → List Name → Name → Type 0
IsBelow sure files chosen path parts last =
    Says sure (files.kind path) Folder × Leads sure files chosen (top path) parts
    × HasFile sure files chosen (within (top path) parts) last
    × (is_excluded chosen (tidy_path path) ≡ false)
