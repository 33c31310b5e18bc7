-- A part of the text before the tests of a suite.
use Rattle.std.specs.Prelude.{ℕ, ◌++◌, List, codes, decimal}

abbrev pub suite_start : ℕ → ℕ → ℕ → List ℕ
suite_start tests failures errors =
    codes "<testsuite name=\"tfrules\" tests=\"" ++ (decimal tests ++ (codes "\" failures=\"" ++ (decimal failures ++ (codes "\" errors=\"" ++ (decimal errors ++ codes "\">\n")))))
