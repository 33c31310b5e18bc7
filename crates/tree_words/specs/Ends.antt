-- How a run of a program for trees ends, by its request: it reads the names from standard input, or has them on its line.
use Rattle.std.specs.Prelude.{◌≡◌, ◌⊎◌, ℕ, Bool, true, false, List, Option}
use Rattle.file_tree.specs.Files.{Name, Tells}
use Rattle.tree_words.specs.Paths.{paths_of_input, paths_of_line}

-- THE END of a run that reads its names, or has these: memory ran out before a file was looked at, or a read failed, or
-- the run was over the paths for which the names stand. `input` is what standard input has, if it tells that.
abbrev pub EndsBy : Type 0 → Type 0 → (List Name → Type 0) → Bool → List Name → Bool
    → Option (List ℕ) → Type 0
EndsBy NoMemory Unread Over true names failed input =
    NoMemory ⊎ (((failed ≡ true) × Unread)
    ⊎ ((failed ≡ false) × (bytes : List ℕ) × Tells input bytes × Over (paths_of_input bytes)))
EndsBy NoMemory Unread Over false names failed input = NoMemory ⊎ Over (paths_of_line names)
