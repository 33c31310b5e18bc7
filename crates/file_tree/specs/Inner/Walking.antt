-- A walk, step by step: the found names, and the folders still to be listed.
use Rattle.std.specs.Prelude.{◌≡◌, ◌≢◌, ◌⊎◌, ◌&&◌, ℕ, Bool, true, false, List, [], ◌∷◌, ◌++◌, Option, Some, None, map}
use Rattle.std.specs.List.{Contains}
use Rattle.file_tree.specs.Below.{IsBelow, IsNamed, IsOther, is_met, names_in_listing, surely}
use Rattle.file_tree.specs.Choices.{Chosen, is_excluded, is_wanted}
use Rattle.file_tree.specs.Files.{Faults, Files, Name, is_link}
use Rattle.hcl_source.specs.Devices.{Tells}
use Rattle.file_tree.specs.Finds.{AreReal, Failure, IsFolderOf, IsOf, with_failures}
use Rattle.file_tree.specs.Names.{is_taken}
use Rattle.file_tree.specs.Ordered.{IsFound}
use Rattle.file_tree.specs.Paths.{inside, place, report_name, tidy_path, top}
use Rattle.file_tree.specs.declared.fault.TreeFault.{TreeFault}
use Rattle.file_tree.specs.declared.fault.TreeFault.TheVariants.{OtherKind}
use Rattle.file_tree.specs.declared.kind.Identity.{Identity}
use Rattle.file_tree.specs.declared.kind.Kind.{Kind}
use Rattle.file_tree.specs.declared.kind.Kind.TheVariants.{File, Folder, Link, Other}
use Rattle.file_tree.specs.declared.walk.Found.{Found}
use Rattle.file_tree.specs.declared.walk.FoundFile.{FoundFile}
use Rattle.file_tree.specs.declared.walk.Walk.{Walk}

-- the names found so far, and the folders still to be listed
pub record Reached : Type 0 where
  pub found : List Found
  pub folders : List Name

abbrev pub walk_view : Walk → Reached
walk_view w = record { found = w.found.items; folders = map (λ folder. folder.items) w.folders.items }

-- ---- one step more

-- a name was found, or reported
pub record Adds (name : Name) (fault : Option TreeFault) (file : Option FoundFile) (old new : Reached) : Type 0 where
  pub f : Found
  pub name_is : f.name.items ≡ name
  pub fault_is : f.fault ≡ fault
  pub file_is : f.file ≡ file
  pub found : new.found ≡ old.found ++ f ∷ []
  pub folders : new.folders ≡ old.folders

-- a folder is to be listed
pub record Enters (folder : Name) (old new : Reached) : Type 0 where
  pub found : new.found ≡ old.found
  pub folders : new.folders ≡ old.folders ++ folder ∷ []

-- a fault was reported under a name
abbrev pub Reports : Name → Reached → Reached → Type 0
Reports name old new = (fault : TreeFault) × Adds name (Some fault) None old new

-- a file by a name, which may be a link to it
abbrev pub file_by : Bool → Identity → FoundFile
file_by is_link identity = record { identity = identity; is_link = is_link }

-- the entry under this name, whose last part this is, is a file that is taken, and it was found; or nothing was
abbrev pub TakesIf : Bool → Name → Identity → Reached → Reached → Type 0
TakesIf true path identity old new = Adds path None (Some (file_by false identity)) old new
TakesIf false path identity old new = new ≡ old

-- the effect of an entry that is no file, if it is taken
abbrev pub TakesSpecial : Bool → Name → Reached → Reached → Type 0
TakesSpecial true path old new = Adds path None None old new
TakesSpecial false path old new = new ≡ old

-- the effect of a link to this, or of one that can't be followed
abbrev pub TakesLinked : Bool → Kind → Name → Reached → Reached → Type 0
TakesLinked specials (File identity) path old new = Adds path None (Some (file_by true identity)) old new
TakesLinked specials Other path old new = TakesSpecial specials path old new
TakesLinked specials kind path old new = new ≡ old

-- the effect of a link, given whether its name is taken
abbrev pub TakesLink : Bool → Bool → Files → Name → Reached → Reached → Type 0
TakesLink true specials files path old new = Reports path old new ⊎ ((kind : Kind) × Tells (files.kind path) kind × TakesLinked specials kind path old new)
TakesLink false specials files path old new = new ≡ old

-- the effect of an entry of this kind
abbrev pub TakesKind : Bool → Kind → Files → Name → Name → Reached → Reached → Type 0
TakesKind specials Folder files path name old new = Enters (path ++ (47 ∷ [])) old new
TakesKind specials (File identity) files path name old new = TakesIf (is_taken name) path identity old new
TakesKind specials Link files path name old new = TakesLink (is_taken name) specials files path old new
TakesKind specials Other files path name old new = TakesSpecial (specials && is_taken name) path old new

-- the effect of an entry that is met
abbrev pub TakesMet : Bool → Files → Name → Name → Reached → Reached → Type 0
TakesMet specials files path name old new = Reports path old new ⊎ ((kind : Kind) × Tells (files.entry path) kind × TakesKind specials kind files path name old new)

-- the effect of an entry
abbrev pub TakesEntry : Files → Chosen → Name → Name → Reached → Reached → Type 0
TakesEntry files chosen folder name old new = ((is_met chosen folder name ≡ false) × (new ≡ old)) ⊎ ((is_met chosen folder name ≡ true) × TakesMet chosen.specials files (folder ++ name) name old new)

-- the effect of some entries in turn
abbrev pub TakesAll : Files → Chosen → Name → List Name → Reached → Reached → Type 0
TakesAll files chosen folder [] old new = new ≡ old
TakesAll files chosen folder (name ∷ names) old new = (between : Reached) × TakesEntry files chosen folder name old between × TakesAll files chosen folder names between new

-- the effect of a folder
abbrev pub TakesFolder : Files → Chosen → Name → Reached → Reached → Type 0
TakesFolder files chosen folder old new =
    Reports (place folder) old new ⊎ ((listing : List ℕ) × Tells (files.listing (place folder)) listing × TakesAll files chosen folder (names_in_listing listing) old new)

-- the effect of a given path that leads to a file, by the kind of its name
abbrev pub TakesNamedFile : Files → Identity → Name → Reached → Reached → Type 0
TakesNamedFile files identity path old new =
    Reports (report_name path) old new ⊎ ((entry : Kind) × Tells (files.entry (tidy_path path)) entry × Adds (tidy_path path) None (Some (file_by (is_link entry) identity)) old new)

-- the effect of a given path that is to be looked at
abbrev pub TakesWanted : Kind → Files → Name → Reached → Reached → Type 0
TakesWanted (File identity) files path old new = TakesNamedFile files identity path old new
TakesWanted kind files path old new = Adds (tidy_path path) None None old new

abbrev pub TakesNamed : Bool → Kind → Files → Name → Reached → Reached → Type 0
TakesNamed true kind files path old new = TakesWanted kind files path old new
TakesNamed false kind files path old new = Adds (tidy_path path) (Some OtherKind) None old new

-- the effect of a given path
abbrev pub TakesKindGiven : Files → Chosen → Kind → Name → Reached → Reached → Type 0
TakesKindGiven files chosen Folder path old new = Enters (top path) old new
TakesKindGiven files chosen kind path old new = TakesNamed (is_wanted chosen (tidy_path path)) kind files path old new

abbrev pub TakesAsked : Files → Chosen → Name → Reached → Reached → Type 0
TakesAsked files chosen path old new = Reports (report_name path) old new ⊎ ((kind : Kind) × Tells (files.kind path) kind × TakesKindGiven files chosen kind path old new)

abbrev pub TakesGiven : Files → Chosen → Name → Reached → Reached → Type 0
TakesGiven files chosen path old new =
    ((is_excluded chosen (tidy_path path) ≡ true) × (new ≡ old)) ⊎ ((is_excluded chosen (tidy_path path) ≡ false) × TakesAsked files chosen path old new)

-- ---- the walk so far

abbrev pub IsFault : List Found → Name → Type 0
IsFault found name = (f : Found) × Contains found f × (f.name.items ≡ name) × (f.fault ≢ None)

-- the entries below a folder were found, or reported, or are still to be met
abbrev pub Covers : Reached → Name → List Name → Name → Type 0
Covers r folder [] last = Contains r.folders folder ⊎ (IsFault r.found (place folder) ⊎ (IsFault r.found (folder ++ last) ⊎ IsFound r.found (folder ++ last)))
Covers r folder (part ∷ parts) last = Contains r.folders folder ⊎ (IsFault r.found (place folder) ⊎ (IsFault r.found (folder ++ part) ⊎ Covers r (inside folder part) parts last))

pub record Walked (files : Files) (chosen : Chosen) (paths : List Name) (r : Reached) : Type 0 where
  pub real : (f : Found) → Contains r.found f → IsOf files chosen paths f
  pub deeper : (folder : Name) → Contains r.folders folder → (path : Name) × Contains paths path × IsFolderOf files chosen path folder
  pub other : (path : Name) → Contains paths path → IsOther surely files chosen path → IsFault r.found (tidy_path path) ⊎ IsFault r.found (report_name path)
  pub given : (path : Name) → Contains paths path → IsNamed surely files chosen path → IsFound r.found (tidy_path path) ⊎ IsFault r.found (report_name path)
  pub below : (path : Name) (parts : List Name) (last : Name) → Contains paths path → IsBelow surely files chosen path parts last
      → IsFault r.found (report_name path) ⊎ Covers r (top path) parts last

-- ---- the answers of the device's calls

abbrev pub failures_of : Name → Option TreeFault → List Failure
failures_of name None = []
failures_of name (Some fault) = record { name = name; fault = fault } ∷ []

-- the reported names, in the order in which they were met
abbrev pub failures_in : List Found → List Failure
failures_in [] = []
failures_in (f ∷ found) = failures_of f.name.items f.fault ++ failures_in found

-- the calls that failed since are those of the reported names
pub record Hears (old new : List Found) (before after : Faults) : Type 0 where
  pub more : List Found
  pub found : new ≡ old ++ more
  pub heard : after ≡ with_failures before (failures_in more)

-- a walk hears of each failed call of the device, and keeps it
abbrev pub WalkHears : Walk → Walk → Faults → Faults → Type 0
WalkHears old new before after = Hears (walk_view old).found (walk_view new).found before after

-- everything that a given path adds is real
pub record HearsGiven (files : Files) (chosen : Chosen) (path : Name) (old new : List Found) (before after : Faults) : Type 0 where
  pub more : List Found
  pub found : new ≡ old ++ more
  pub real : AreReal files chosen (path ∷ []) before after more
