-- Which `.tfrules` governs the modules of a folder. A folder is named by its full path, with a `/` at its end. Our own choice.
use Rattle.std.specs.Prelude.{◌≡◌, ◌≤◌, ◌<◌, ◌==◌, ◌||◌, ◌+◌, ℕ, zero, suc, List, [], ◌∷◌, ◌++◌, Option, Some, None, All, codes, filter, get_or, length, nat_lt, take, if◌then◌else◌}
use Rattle.std.specs.Str.{bytes_eq}
use Rattle.file_tree.specs.Files.{Files, Name, Tells}
use Rattle.file_tree.specs.Names.{begins}
use Rattle.file_tree.specs.declared.kind.Kind.{Kind}

-- the folders that end before the n-th byte of a path, the nearest first
abbrev pub ups_to : Name → ℕ → List Name
ups_to path zero = []
ups_to path (suc n) =
    if get_or path n 0 == 47 then take (suc n) path ∷ ups_to path n else ups_to path n

-- a folder and those above it
abbrev pub ups : Name → List Name
ups folder = ups_to folder (length folder)

-- this many of these folders lack the entry, and the next one has it, if there is one
pub record IsFirst (files : Files) (entry : Name) (folders : List Name) (n : ℕ) : Type 0 where
  pub within : n ≤ length folders
  pub lack : All (λ folder. files.entry (folder ++ entry) ≡ None) (take n folders)
  pub has : n < length folders → (kind : Kind)
      × Tells (files.entry (get_or folders n [] ++ entry)) kind

-- the folders whose `.tfrules` counts: up to the top of the repository, which is the first that has `.git`; if none
-- has, the folder itself, and those that aren't above the current one
abbrev pub counted_folders : Name → List Name → ℕ → List Name
counted_folders current folders top =
    if nat_lt top (length folders) then take (top + 1) folders
    else filter (λ folder. bytes_eq folder (get_or folders 0 []) || begins current folder) folders

abbrev pub file_at : List Name → ℕ → Option Name
file_at folders n =
    if nat_lt n (length folders) then Some (get_or folders n [] ++ codes ".tfrules") else None

-- THE FILE THAT GOVERNS the modules of a folder, if one does: that of the nearest folder that has one and counts
pub record Governs (files : Files) (current folder : Name) (governor : Option Name) : Type 0 where
  pub top : ℕ
  pub is_top : IsFirst files (codes ".git") (ups folder) top
  pub at : ℕ
  pub is_at : IsFirst files (codes ".tfrules") (counted_folders current (ups folder) top) at
  pub is : governor ≡ file_at (counted_folders current (ups folder) top) at
