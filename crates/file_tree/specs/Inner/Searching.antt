-- A walk over folders that lists each by itself.
use Rattle.std.specs.Prelude.{◌≡◌, List, [], ◌∷◌, ◌++◌, map}
use Rattle.std.specs.List.{Contains}
use Rattle.file_tree.specs.Choices.{Chosen}
use Rattle.file_tree.specs.Files.{Faults, Files, Name}
use Rattle.file_tree.specs.Finds.{AreReal}
use Rattle.file_tree.specs.Inner.Walking.{Hears, Reached, TakesFolder, Walked}
use Rattle.file_tree.specs.Ordered.{Orders}
use Rattle.file_tree.specs.Seen.{all_found}
use Rattle.file_tree.specs.declared.walk.ListedFolder.{ListedFolder}
use Rattle.file_tree.specs.declared.walk.Search.{Search}

-- everything found so far, and the folders still to be listed
abbrev pub search_view : Search → Reached
search_view s = record { found = all_found s.walk.found.items s.looked.items; folders = map (λ folder. folder.items) s.walk.folders.items }

abbrev pub nothing : Reached
nothing = record { found = []; folders = [] }

-- the entries found in a folder are kept, and its folders are to be listed
pub record Keeps (folder : Name) (here : Reached) (old new : Search) : Type 0 where
  pub l : ListedFolder
  pub folder_is : l.folder.items ≡ folder
  pub found_is : l.found.items ≡ here.found
  pub named : new.walk.found ≡ old.walk.found
  pub looked : new.looked.items ≡ old.looked.items ++ l ∷ []
  pub folders : map (λ folder. folder.items) new.walk.folders.items ≡ map (λ folder. folder.items) old.walk.folders.items ++ here.folders

-- a folder was listed
pub record LooksInto (files : Files) (chosen : Chosen) (folder : Name) (was is : Faults) (old new : Search) : Type 0 where
  pub here : Reached
  pub takes : TakesFolder files chosen folder nothing here
  pub hears : Hears [] here.found was is
  pub keeps : Keeps folder here old new

-- the entries found in it are of this folder
abbrev pub IsLook : Files → Chosen → ListedFolder → Type 0
IsLook files chosen l = (here : Reached) × TakesFolder files chosen l.folder.items nothing here × (l.found.items ≡ here.found)

abbrev pub AreLooks : Files → Chosen → List ListedFolder → Type 0
AreLooks files chosen looked = (l : ListedFolder) → Contains looked l → IsLook files chosen l

-- some folders were listed, and those in them
pub record Searches (files : Files) (chosen : Chosen) (was is : Faults) (old new : Search) : Type 0 where
  pub walked : (paths : List Name) → Walked files chosen paths (search_view old) → Walked files chosen paths (search_view new)
  pub hears : Hears (search_view old).found (search_view new).found was is
  pub named : new.walk.found ≡ old.walk.found
  pub looks : AreLooks files chosen old.looked.items → AreLooks files chosen new.looked.items

-- everything that these paths stand for
pub record SeesAll (files : Files) (chosen : Chosen) (paths : List Name) (was is : Faults) (s : Search) : Type 0 where
  pub walked : Walked files chosen paths (record { found = (search_view s).found; folders = [] })
  pub real : AreReal files chosen paths was is (search_view s).found
  pub looks : AreLooks files chosen s.looked.items

-- ---- in order

-- these folders, and in each the found names in order
abbrev pub AreOrdered : List ListedFolder → List ListedFolder → Type 0
AreOrdered [] [] = Unit {0}
AreOrdered [] (o ∷ os) = ⊥
AreOrdered (l ∷ ls) [] = ⊥
AreOrdered (l ∷ ls) (o ∷ os) = (o.folder.items ≡ l.folder.items) × Orders l.found.items o.found.items × AreOrdered ls os
