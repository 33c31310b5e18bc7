-- What the device tells in a run, by the steps of the code.
use Rattle.std.specs.Prelude.{◌≡◌, false, ℕ, List, Some, None}
use Rattle.file_tree.specs.Files.{Files, Name}
use Rattle.file_tree.specs.declared.tree.Writing.{Writing}
use Rattle.file_tree.specs.declared.walk.Found.{Found}
use Rattle.tree_format.specs.GoodRuns.{HasFormatOrFault, IsReady}
use Rattle.tree_format.specs.declared.mode.Mode.TheVariants.{Write}

-- the tree tells the bytes of the file to which a name leads, which have a format or a fault
abbrev pub IsToldIn : Files → Name → Type 0
IsToldIn files name =
    (bytes : List ℕ) × (files.told (files.real name) ≡ Some bytes) × HasFormatOrFault bytes

-- nothing prevents a look at a file that is to be written, if no lines of faults are shown
abbrev pub IsReadyIn : Files → Found → Type 0
IsReadyIn files f =
    (writing : Writing) → (f.fault ≡ None)
    × IsReady false (Write writing) f.name.items (files.told (files.real f.name.items))
