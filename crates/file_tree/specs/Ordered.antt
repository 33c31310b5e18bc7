-- The found names in order.
use Rattle.std.specs.Prelude.{◌≡◌, List, None}
use Rattle.std.specs.Cmp.Lexicographic.{slice_cmp}
use Rattle.std.specs.List.{Contains}
use Rattle.std.specs.List.Sorted.{IsStrictlySortedBy}
use Rattle.std.specs.Ordering.{nat_cmp}
use Rattle.file_tree.specs.Files.{Name}
use Rattle.file_tree.specs.declared.walk.Found.{Found}

-- each name is before all later ones, by bytes: so none is there twice
abbrev pub Rises : List Found → Type 0
Rises found = IsStrictlySortedBy (λ f g. slice_cmp nat_cmp f.name.items g.name.items) found

-- a name was found, without a fault
abbrev pub IsFound : List Found → Name → Type 0
IsFound found name = (f : Found) × Contains found f × (f.name.items ≡ name) × (f.fault ≡ None)

-- a name was found, or reported
abbrev pub HasName : List Found → Name → Type 0
HasName found name = (f : Found) × Contains found f × (f.name.items ≡ name)

-- THE FOUND NAMES IN ORDER, each once: one that was found both with a fault and without has none
pub record Orders (found ordered : List Found) : Type 0 where
  pub rises : Rises ordered
  pub only : (f : Found) → Contains ordered f → Contains found f
  pub kept : (name : Name) → IsFound found name → IsFound ordered name
  pub named : (name : Name) → HasName found name → HasName ordered name
