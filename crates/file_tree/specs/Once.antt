-- Links to files that were found under another name as well.
use Rattle.std.specs.Prelude.{◌≡◌, ◌⊎◌, true, false, List, Some}
use Rattle.std.specs.Cmp.Lexicographic.{slice_cmp}
use Rattle.std.specs.List.{Contains}
use Rattle.std.specs.Ordering.{nat_cmp}
use Rattle.std.specs.declared.cmp.Ordering.TheVariants.{Less}
use Rattle.file_tree.specs.Ordered.{Rises}
use Rattle.file_tree.specs.declared.kind.Identity.{Identity}
use Rattle.file_tree.specs.declared.walk.Found.{Found}
use Rattle.file_tree.specs.declared.walk.FoundFile.{FoundFile}

-- a name of this file that is a link to it
abbrev pub IsLinkTo : Identity → Found → Type 0
IsLinkTo identity g =
    (file : FoundFile) × (g.file ≡ Some file) × (file.identity ≡ identity) × (file.is_link ≡ true)

-- a name of this file that is no link
abbrev pub IsPlain : Identity → Found → Type 0
IsPlain identity f =
    (file : FoundFile) × (f.file ≡ Some file) × (file.identity ≡ identity) × (file.is_link ≡ false)

-- a link to a file that is there under this other name, which is no link or an earlier one
abbrev pub IsAgain : Found → Found → Type 0
IsAgain f g =
    (identity : Identity) × IsLinkTo identity g
    × (IsPlain identity f
    ⊎ (IsLinkTo identity f × (slice_cmp nat_cmp f.name.items g.name.items ≡ Less)))

-- EACH FILE ONCE, as far as links lead to it: a found link is dropped only if its file is kept under another name, and
-- no such link is kept. Names that are no links are all kept, whatever files they have
pub record KeepsOnce (found kept : List Found) : Type 0 where
  pub rises : Rises kept
  pub only : (f : Found) → Contains kept f → Contains found f
  pub stays : (g : Found) → Contains found g → Contains kept g
      ⊎ ((f : Found) × Contains kept f × IsAgain f g)
  pub once : (f g : Found) → Contains kept f → Contains kept g → IsAgain f g → ⊥
