-- Runs in which nothing fails, for the laws: the device tells the files, and nothing prevents a look. Our own
-- definitions.
use Rattle.std.specs.Prelude.{◌≡◌, ◌≢◌, ◌⊎◌, ℕ, Bool, true, false, List, Option, Some, None, All, IsSome}
use Rattle.hcl_source.specs.declared.fault.Fault.{Fault}
use Rattle.file_tree.specs.Files.{Files, Name}
use Rattle.file_tree.specs.declared.tree.Replaced.TheVariants.{Narrowed}
use Rattle.file_tree.specs.declared.walk.Found.{Found}
use Rattle.text_format.specs.Format.{IsFormat, IsFault}
use Rattle.tree_format.specs.Looks.{shown_diff}
use Rattle.tree_format.specs.Refusals.{shown_line}
use Rattle.tree_format.specs.declared.mode.Mode.{Mode}
use Rattle.tree_format.specs.declared.mode.Mode.TheVariants.{Write, Check, List as Listed, Diff}
use Rattle.tree_format.specs.declared.outcome.Outcome.{Outcome}
use Rattle.tree_format.specs.declared.outcome.Outcome.TheVariants as outcome

-- the bytes have a format, or a fault
abbrev pub HasFormatOrFault : List ℕ → Type 0
HasFormatOrFault bytes =
    ((formatted : List ℕ) × IsFormat bytes formatted) ⊎ ((fault : Fault) × IsFault bytes fault)

-- the device tells the bytes of each file to which a name leads
abbrev pub AreTold : Files → List Found → Type 0
AreTold files found = All (λ f. IsSome (files.told (files.real f.name.items))) found

-- the answer of a look that shows this text, which is in memory
abbrev pub Holds : Outcome → List ℕ → Type 0
Holds (outcome.Differs text) shown = text.items ≡ shown
Holds _ shown = ⊥

-- if the changes to a file are to be shown, there is memory for them
abbrev pub HasRoom : Mode → Name → List ℕ → Type 0
HasRoom Diff name bytes =
    (formatted : List ℕ) → IsFormat bytes formatted → formatted ≢ bytes → (answer : Outcome)
    × Holds answer (shown_diff name bytes formatted)
HasRoom _ name bytes = Unit {0}

-- if the line of a fault is to be shown, there is memory for it
abbrev pub HasLineRoom : Bool → List ℕ → Type 0
HasLineRoom false bytes = Unit {0}
HasLineRoom true bytes =
    (fault : Fault) → IsFault bytes fault → (answer : Outcome)
    × Holds answer (shown_line true bytes fault)

-- the device tells the bytes of a file, and nothing prevents a look at it
abbrev pub IsReady : Bool → Mode → Name → Option (List ℕ) → Type 0
IsReady shows mode name None = ⊥
IsReady shows mode name (Some bytes) =
    HasFormatOrFault bytes × HasRoom mode name bytes × HasLineRoom shows bytes

abbrev pub AreReady : Bool → Mode → Files → List Found → Type 0
AreReady shows mode files found =
    All (λ f. (f.fault ≡ None)
    × IsReady shows mode f.name.items (files.told (files.real f.name.items))) found

-- a file was written, and its group couldn't be kept
abbrev pub is_narrowed : Outcome → Bool
is_narrowed (outcome.Changed Narrowed) = true
is_narrowed _ = false
