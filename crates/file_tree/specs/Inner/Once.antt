-- Links to files that were met before, step by step.
use Rattle.std.specs.Prelude.{◌≡◌, ◌⊎◌, Bool, true, false, not, List, [], ◌∷◌, ◌++◌, Option, Some, None, if◌then◌else◌}
use Rattle.std.specs.List.{Contains}
use Rattle.file_tree.specs.Ordered.{Rises}
use Rattle.file_tree.specs.Once.{IsAgain, IsLinkTo, IsPlain}
use Rattle.file_tree.specs.declared.kind.Identity.{Identity}
use Rattle.file_tree.specs.declared.walk.Found.{Found}
use Rattle.file_tree.specs.declared.walk.FoundFile.{FoundFile}

-- an identity was noted, and the answer says whether it was new
pub record NotesIdentity (had has : Identity → Bool) (identity : Identity) (is_new : Bool) : Type 0 where
  pub is : is_new ≡ not (had identity)
  pub now : has identity ≡ true
  pub kept : (other : Identity) → had other ≡ true → has other ≡ true
  pub more : (other : Identity) → has other ≡ true → (other ≡ identity) ⊎ (had other ≡ true)

-- the file of a name that is no link was noted
abbrev pub NotesUnless : Bool → Identity → (Identity → Bool) → (Identity → Bool) → Type 0
NotesUnless true identity had has = has ≡ had
NotesUnless false identity had has = (is_new : Bool) × NotesIdentity had has identity is_new

abbrev pub NotesPlain : Option FoundFile → (Identity → Bool) → (Identity → Bool) → Type 0
NotesPlain None had has = has ≡ had
NotesPlain (Some file) had has = NotesUnless file.is_link file.identity had has

-- the files of these names that are no links were noted, and no others
pub record Owns (found : List Found) (has : Identity → Bool) : Type 0 where
  pub all : (f : Found) (identity : Identity) → Contains found f → IsPlain identity f → has identity ≡ true
  pub only : (identity : Identity) → has identity ≡ true → (f : Found) × Contains found f × IsPlain identity f

-- a link was met; it is kept if its file wasn't noted
abbrev pub MeetsLink : Identity → Found → (Identity → Bool) → (Identity → Bool) → List Found → List Found → Type 0
MeetsLink identity f had has old new = (is_new : Bool) × NotesIdentity had has identity is_new × (new ≡ (if is_new then old ++ f ∷ [] else old))

abbrev pub MeetsIf : Bool → Identity → Found → (Identity → Bool) → (Identity → Bool) → List Found → List Found → Type 0
MeetsIf true identity f had has old new = MeetsLink identity f had has old new
MeetsIf false identity f had has old new = (has ≡ had) × (new ≡ old ++ f ∷ [])

-- another name was met
abbrev pub MeetsBy : Option FoundFile → Found → (Identity → Bool) → (Identity → Bool) → List Found → List Found → Type 0
MeetsBy None f had has old new = (has ≡ had) × (new ≡ old ++ f ∷ [])
MeetsBy (Some file) f had has old new = MeetsIf file.is_link file.identity f had has old new

-- of the files met so far these were kept; the files of all names that are no links were noted before
pub record Keeps (own : Identity → Bool) (met kept : List Found) (has : Identity → Bool) : Type 0 where
  pub rises : Rises kept
  pub only : (f : Found) → Contains kept f → Contains met f
  pub plain : (f : Found) (identity : Identity) → Contains met f → IsPlain identity f → Contains kept f
  pub stays : (g : Found) → Contains met g → Contains kept g ⊎ ((identity : Identity) × IsLinkTo identity g × ((own identity ≡ true) ⊎ ((f : Found) × Contains kept f × IsAgain f g)))
  pub apart : (f : Found) (identity : Identity) → Contains kept f → IsLinkTo identity f → own identity ≡ false
  pub owned : (identity : Identity) → own identity ≡ true → has identity ≡ true
  pub noted : (f : Found) (identity : Identity) → Contains kept f → IsLinkTo identity f → has identity ≡ true
  pub known : (identity : Identity) → has identity ≡ true → (own identity ≡ true) ⊎ ((f : Found) × Contains kept f × IsLinkTo identity f)
  pub once : (f g : Found) (identity : Identity) → Contains kept f → Contains kept g → IsLinkTo identity f → IsLinkTo identity g → f.name.items ≡ g.name.items

-- all were met
abbrev pub AreKept : (Identity → Bool) → List Found → List Found → Type 0
AreKept own found kept = (has : Identity → Bool) × Keeps own found kept has
