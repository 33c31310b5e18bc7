-- The files and folders that a call names. Our own choice.
use Rattle.std.specs.Prelude.{ℕ, ◌-◌, ◌==◌, List, [], ◌∷◌, codes, length, take, if◌then◌else◌}
use Rattle.file_tree.specs.Below.{names_in_listing}
use Rattle.file_tree.specs.Files.{Name}
use Rattle.file_tree.specs.Names.{ends}

-- the names in the line, or the current folder if there are none
abbrev pub paths_of_line : List Name → List Name
paths_of_line [] = codes "." ∷ []
paths_of_line names = names

abbrev pub without_last_nul : List ℕ → List ℕ
without_last_nul bytes = if ends (0 ∷ []) bytes then take (length bytes - 1) bytes else bytes

abbrev pub between_nuls : List ℕ → List Name
between_nuls bytes = if length bytes == 0 then [] else names_in_listing bytes

-- the names from standard input, each ended by NUL; the last one needs none
abbrev pub paths_of_input : List ℕ → List Name
paths_of_input bytes = between_nuls (without_last_nul bytes)
