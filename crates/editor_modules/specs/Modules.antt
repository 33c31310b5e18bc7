-- THE MODULE of a folder, and the options by which it is linted: those of the `.tfrules` that governs it, or the default.
use Rattle.std.specs.Prelude.{◌≡◌, true, List, [], ◌∷◌, Option, Some, None}
use Rattle.std.specs.List.{Contains}
use Rattle.file_tree.specs.Files.{Faults, Files, Name}
use Rattle.module_config.specs.Lines.{no_options}
use Rattle.module_config.specs.Configs.{Configures}
use Rattle.module_config.specs.declared.configure.Configured.{Configured}
use Rattle.module_find.specs.Modules.{AreAlone}
use Rattle.module_find.specs.declared.module.Module.{Module}
use Rattle.module_find.specs.declared.policy.Governed.{Governed}

-- it is one whose options are known, if any is
abbrev pub IsGoverned : Configured → Option Governed → Type 0
IsGoverned c None = c.governed.items ≡ []
IsGoverned c (Some one) = Contains c.governed.items one

-- THE MODULE, or none if its options aren't known
pub record HasModule (files : Files) (folder : Name) (governed : Option Governed) : Type 0 where
  pub modules : List Module
  pub alone : AreAlone files folder modules
  pub was : Faults
  pub is : Faults
  pub configured : Configured
  pub by : Configures files no_options true modules was is configured
  pub one : IsGoverned configured governed
