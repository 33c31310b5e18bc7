-- THE FAULT of a text as an editor is told it: for what reason the text is no file of the language, and which part is marked.
use Rattle.std.specs.Prelude.{◌≡◌, ◌⊎◌, ℕ, List, Ok, Err, Option, Some, None}
use Rattle.hcl_source.specs.Load.{IsText, IsLoadFault}
use Rattle.hcl_source.specs.declared.fault.Fault.{Fault}
use Rattle.hcl_source.specs.declared.fault.FaultKind.{FaultKind}
use Rattle.hcl_tokens.specs.Scanned.{Scanned}
use Rattle.hcl_grammar.specs.Verdict.{IsTextVerdict}
use Rattle.text_places.specs.declared.place.Place.{Place}
use Rattle.text_places.specs.declared.place.Units.{Units}
use Rattle.module_check.specs.Marks.{marked_range}
use Rattle.module_check.specs.declared.fault.MarkedFault.{MarkedFault}

abbrev pub front : Place
front = record { line = 0; character = 0 }

-- the fault of a text that is no source: nothing is marked
abbrev pub at_front : FaultKind → MarkedFault
at_front kind = record { range = record { start = front; end = front }; kind = kind }

abbrev pub marked_fault : Units → List ℕ → Fault → MarkedFault
marked_fault units text fault =
    record { range = marked_range units text fault.at; kind = fault.kind }

-- the fault of a text that can't be loaded, or that of its verdict
abbrev pub IsMarked : Units → List ℕ → MarkedFault → Type 0
IsMarked units text marked =
    ((fault : Fault) × IsLoadFault text fault × (marked ≡ at_front fault.kind))
    ⊎ ((fault : Fault) × IsText text × IsTextVerdict text (Err fault)
    × (marked ≡ marked_fault units text fault))

-- the fault of a text, or none if it is a file of the language
abbrev pub HasFault : Units → List ℕ → Option MarkedFault → Type 0
HasFault units text (Some marked) = IsMarked units text marked
HasFault units text None =
    IsText text × ((source : Scanned) × IsTextVerdict text (Ok source))
