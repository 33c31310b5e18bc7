-- Texts that are files of the language, and texts that are refused.
use Rattle.std.specs.Prelude.{◌⊎◌, ℕ, List, Ok, Err}
use Rattle.hcl_grammar.specs.Verdict.{IsTextVerdict}
use Rattle.hcl_source.specs.Load.{IsText, IsLoadFault}
use Rattle.hcl_source.specs.declared.fault.Fault.{Fault}
use Rattle.hcl_tokens.specs.Scanned.{Scanned}

-- the text is a file of these tokens
abbrev pub IsFile : List ℕ → Scanned → Type 0
IsFile text s = IsText text × IsTextVerdict text (Ok s)

-- the text has a fault: it is no source, or its verdict is one
abbrev pub IsRefused : List ℕ → Type 0
IsRefused text =
    (fault : Fault)
    × (IsLoadFault text fault ⊎ (IsText text × IsTextVerdict text (Err fault)))
