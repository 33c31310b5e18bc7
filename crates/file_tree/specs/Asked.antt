-- The replacements that a device was asked for, and its answers. Our own choice.
use Rattle.std.specs.Prelude.{ℕ, List, [], ◌∷◌, ◌++◌, Option, Result, option_map}
use Rattle.file_tree.specs.Files.{Name}
use Rattle.file_tree.specs.declared.fault.TreeFault.{TreeFault}
use Rattle.file_tree.specs.declared.tree.Replaced.{Replaced}
use Rattle.file_tree.specs.declared.tree.Writing.{Writing}

-- one call: the name, the expected old bytes, the new bytes, the way of writing, and the answer
pub record Replacement : Type 0 where
  pub name : Name
  pub old : List ℕ
  pub new : List ℕ
  pub writing : Writing
  pub answer : Result Replaced TreeFault

-- all calls so far, in their order, if the device tells them
abbrev pub Asked : Type 0
Asked = Option (List Replacement)

-- these calls, and then one more
abbrev pub with_asked : Asked → Replacement → Asked
with_asked asked more = option_map (λ all. all ++ more ∷ []) asked
