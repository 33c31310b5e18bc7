-- The contents of a line of a `.tfrules`. Our own choice.
use Rattle.std.specs.Prelude.{ℕ, ◌==◌, ◌&&◌, Bool, true, false, List, [], Option, Some, None, Result, Ok, Err, codes, length, nat_lt, ok_or, if◌then◌else◌}
use Rattle.std.specs.List.{after_first, before_first, position_or_len}
use Rattle.std.specs.Str.{bytes_eq, trim}
use Rattle.rule_set.specs.declared.rule.Rule.{Rule}
use Rattle.rule_set.specs.declared.rule.Severity.{Severity}
use Rattle.module_config.specs.Lists.{rules_in}
use Rattle.module_config.specs.declared.list_fault.ListFault.{ListFault}
use Rattle.module_config.specs.declared.list_fault.ListFault.TheVariants as list
use Rattle.tf_rules.specs.declared.naming.Naming.{Naming}
use Rattle.tfrules_command.specs.Line.{naming_of_text, severity_of_text}
use Rattle.module_config.specs.declared.line_fault.ConfigFault.{ConfigFault}
use Rattle.module_config.specs.declared.line_fault.ConfigFault.TheVariants.{UnknownOption, GivenTwice, UnknownRule, NoRuleLeft, UnknownNaming, UnknownSeverity}

-- the given options
pub record Options : Type 0 where
  pub rules : Option (List Rule)
  pub naming : Option Naming
  pub minimum : Option Severity
  pub force : Bool
  pub checks : Bool

abbrev pub no_options : Options
no_options = record { rules = None; naming = None; minimum = None; force = false; checks = false }

-- ---- the parts of a line

-- a line without its comment, and without surrounding white space
abbrev pub without_comment : List ℕ → List ℕ
without_comment line = trim (before_first (λ b. b == 35) line)

-- cut at the first of a byte, or other parts without one
abbrev pub cut_or : ℕ → List ℕ → List ℕ × List ℕ → List ℕ × List ℕ
cut_or c text others =
    if nat_lt (position_or_len (λ b. b == c) text) (length text)
    then (trim (before_first (λ b. b == c) text), trim (after_first (λ b. b == c) text))
    else others

-- `NAME=VALUE`, `NAME VALUE`, or `NAME` with an empty value
abbrev pub parts : List ℕ → List ℕ × List ℕ
parts text = cut_or 61 text (cut_or 32 text (cut_or 9 text (text, [])))

-- ---- the options that a line adds, or what is wrong with it

-- an option is given once
abbrev pub with_value : {A : Type 0} → Option A → Result A ConfigFault → (A → Options)
    → Result Options ConfigFault
with_value (Some a) value put = Err GivenTwice
with_value None (Err fault) put = Err fault
with_value None (Ok a) put = Ok (put a)

abbrev pub rules_or_fault : Result (List Rule) ListFault → Result (List Rule) ConfigFault
rules_or_fault (Ok rules) = Ok rules
rules_or_fault (Err list.UnknownRule) = Err UnknownRule
rules_or_fault (Err list.NoneLeft) = Err NoRuleLeft

abbrev pub with_option : Options → List ℕ → List ℕ → Result Options ConfigFault
with_option said name value =
    if bytes_eq name (codes "--rules")
    then with_value said.rules (rules_or_fault (rules_in value))
    (λ rules. record said { rules = Some rules })
    else (if bytes_eq name (codes "--naming")
    then with_value said.naming (ok_or (naming_of_text value) UnknownNaming)
    (λ naming. record said { naming = Some naming })
    else (if bytes_eq name (codes "--minimum-failure-severity")
    then with_value said.minimum (ok_or (severity_of_text value) UnknownSeverity)
    (λ minimum. record said { minimum = Some minimum })
    else (if bytes_eq name (codes "--force") && length value == 0
    then (if said.force then Err GivenTwice else Ok (record said { force = true }))
    else (if bytes_eq name (codes "--check-comments") && length value == 0
    then (if said.checks then Err GivenTwice else Ok (record said { checks = true }))
    else Err UnknownOption))))

-- THE OPTIONS after another line: an empty one adds nothing
abbrev pub with_line : Options → List ℕ → Result Options ConfigFault
with_line said line =
    if length (without_comment line) == 0 then Ok said
    else with_option said (parts (without_comment line)).0 (parts (without_comment line)).1
