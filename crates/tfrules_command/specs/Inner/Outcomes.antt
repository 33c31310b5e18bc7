-- The outcome of the bytes of a file, regardless of the other files.
use Rattle.std.specs.Prelude.{◌⊎◌, ℕ, List, Result}
use Rattle.hcl_grammar.specs.Verdict.{IsTextVerdict}
use Rattle.hcl_tokens.specs.Scanned.{Scanned}
use Rattle.hcl_source.specs.Load.{IsLoadFault, IsText}
use Rattle.hcl_source.specs.declared.fault.Fault.{Fault}

-- they have a load fault, or are a text that has an outcome
abbrev pub HasOutcome : List ℕ → Type 0
HasOutcome bytes = ((fault : Fault) × IsLoadFault bytes fault) ⊎ (IsText bytes × ((outcome : Result Scanned Fault) × IsTextVerdict bytes outcome))
