-- Which folders count, by computation.
use Rattle.std.specs.Prelude.{◌≡◌, refl, List, [], ◌∷◌, None, Some, codes}
use Rattle.file_tree.specs.Files.{Name}
use Rattle.module_config.specs.Governs.{counted_folders, file_at, ups}

abbrev folders : List Name
folders = codes "/r/w/a/" ∷ codes "/r/w/" ∷ codes "/r/" ∷ codes "/" ∷ []

above : ups (codes "/r/w/a/") ≡ folders
above = refl

-- the top of the repository is the third of them, wherever the current folder is
in_repository : counted_folders (codes "/r/w/") folders 2 ≡ codes "/r/w/a/" ∷ codes "/r/w/" ∷ codes "/r/" ∷ []
in_repository = refl

-- in none, those that aren't above the current folder
in_none : counted_folders (codes "/r/w/") folders 4 ≡ codes "/r/w/a/" ∷ codes "/r/w/" ∷ []
in_none = refl

-- and the module's own
elsewhere : counted_folders (codes "/r/w/") (ups (codes "/e/m/")) 3 ≡ codes "/e/m/" ∷ []
elsewhere = refl

nearest : file_at folders 1 ≡ Some (codes "/r/w/.tfrules")
nearest = refl

none : file_at folders 4 ≡ None
none = refl
