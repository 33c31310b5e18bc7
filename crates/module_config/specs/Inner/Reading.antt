-- How files are read, and modules placed.
use Rattle.std.specs.Prelude.{◌≡◌, List, [], ◌∷◌, ◌++◌, ℕ, Result, Ok, Err}
use Rattle.file_tree.specs.Files.{Faults, Files, Name}
use Rattle.file_tree.specs.declared.fault.TreeFault.TheVariants.{ReadFailed}
use Rattle.hcl_source.specs.declared.fault.LoadError.{LoadError}
use Rattle.hcl_source.specs.declared.fault.LoadError.TheVariants as error
use Rattle.module_config.specs.Readings.{read_of}
use Rattle.module_config.specs.Reads.{read_text}
use Rattle.module_config.specs.Configs.{IsRead}
use Rattle.module_config.specs.Governors.{IsPlaced, wants}
use Rattle.module_config.specs.declared.config_file.ConfigFile.{ConfigFile}
use Rattle.module_config.specs.declared.config_file.ConfigText.{ConfigText}
use Rattle.module_config.specs.declared.config_file.ConfigText.TheVariants.{Says, Refused, Unread}
use Rattle.module_config.specs.declared.governor.Placed.{Placed}
use Rattle.module_config.specs.declared.start.Start.{Start}
use Rattle.module_find.specs.declared.module.Module.{Module}

abbrev pub IsTextOf : Result (List ℕ) LoadError → ConfigText → Type 0
IsTextOf (Ok text) (Says config) = read_of config ≡ read_text text
IsTextOf (Err (error.Fault fault)) (Refused refused) = refused ≡ fault
IsTextOf (Err error.ReadFailed) (Unread fault) = fault ≡ ReadFailed
IsTextOf _ _ = ⊥

abbrev pub AddsFile : Files → Name → Faults → Faults → List ConfigFile → List ConfigFile → Type 0
AddsFile files name was is old new = (c : ConfigFile) × (c.name.items ≡ name) × IsRead files c.name.items was is c.text × (new ≡ old ++ c ∷ [])

abbrev pub AddsPlaced : Files → Start → Module → Faults → Faults → List Placed → List Placed → Type 0
AddsPlaced files start m was is old new = (p : Placed) × (p.module ≡ m) × IsPlaced (wants m) files start m.folder.items was is p.governor × (new ≡ old ++ p ∷ [])
