-- The growth of a text about names.
use Rattle.std.specs.Prelude.{ℕ, List, [], ◌∷◌, ◌++◌, codes, if◌then◌else◌}
use Rattle.file_tree.specs.Quotes.{in_quotes}
use Rattle.tree_lint.specs.CommentTexts.{is_known}

abbrev pub before_name : List ℕ → List ℕ
before_name [] = codes "no rule is called "
before_name (b ∷ bs) = codes " or "

-- with another name
abbrev pub with_name : List ℕ → List ℕ → List ℕ
with_name text name = (text ++ before_name text) ++ in_quotes name

-- with a name, unless it is known
abbrev pub with_unknown : List ℕ → List ℕ → List ℕ
with_unknown text name = if is_known name then text else with_name text name
