-- The effect of one option.
use Rattle.std.specs.Prelude.{ℕ, true, List, Some, Result, Ok, Err, ok_or, if◌then◌else◌}
use Rattle.module_config.specs.Lists.{rules_in}
use Rattle.tfrules_command.specs.Line.{naming_of_text, severity_of_text}
use Rattle.module_config.specs.Lines.{Options, rules_or_fault, with_value}
use Rattle.module_config.specs.declared.line_fault.ConfigFault.{ConfigFault}
use Rattle.module_config.specs.declared.line_fault.ConfigFault.TheVariants.{GivenTwice, UnknownNaming, UnknownSeverity}

abbrev pub with_rules : Options → List ℕ → Result Options ConfigFault
with_rules said value = with_value said.rules (rules_or_fault (rules_in value)) (λ rules. record said { rules = Some rules })

abbrev pub with_naming : Options → List ℕ → Result Options ConfigFault
with_naming said value = with_value said.naming (ok_or (naming_of_text value) UnknownNaming) (λ naming. record said { naming = Some naming })

abbrev pub with_minimum : Options → List ℕ → Result Options ConfigFault
with_minimum said value = with_value said.minimum (ok_or (severity_of_text value) UnknownSeverity) (λ minimum. record said { minimum = Some minimum })

abbrev pub with_force : Options → Result Options ConfigFault
with_force said = if said.force then Err GivenTwice else Ok (record said { force = true })

abbrev pub with_checks : Options → Result Options ConfigFault
with_checks said = if said.checks then Err GivenTwice else Ok (record said { checks = true })
