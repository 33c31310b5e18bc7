-- The parts of a line about a refused file.
use Rattle.std.specs.Prelude.{ℕ, List, ◌++◌, codes}
use Rattle.command_line.specs.Rows.{line}

-- `:LINE:COLUMN: TEXT`
abbrev pub place_words : List ℕ → List ℕ → List ℕ → List ℕ
place_words row column text = codes ":" ++ (row ++ (codes ":" ++ (column ++ (codes ": " ++ line text))))
