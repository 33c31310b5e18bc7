-- The options by which a module is linted: the command line takes precedence over its `.tfrules`, and that over the
-- default.
use Rattle.std.specs.Prelude.{◌==◌, ◌||◌, Bool, List, [], ◌∷◌, Option, Some, None, filter, find, length, option_map, unwrap_or, if◌then◌else◌}
use Rattle.std.specs.Str.{bytes_eq}
use Rattle.file_tree.specs.Files.{Name}
use Rattle.module_config.specs.Lines.{Options, no_options}
use Rattle.module_config.specs.Options.{options_of}
use Rattle.module_find.specs.declared.module.Module.{Module}
use Rattle.rule_set.specs.Rules.{all_rules, is_recommended}
use Rattle.rule_set.specs.declared.rule.Rule.{Rule}
use Rattle.rule_set.specs.declared.rule.Severity.{Severity}
use Rattle.rule_set.specs.declared.rule.Severity.TheVariants.{Notice}
use Rattle.tf_rules.specs.Issues.{Asked, asked_of}
use Rattle.tf_rules.specs.declared.naming.Naming.TheVariants.{SnakeCase}
use Rattle.module_find.specs.declared.policy.Governed.{Governed}
use Rattle.module_find.specs.declared.policy.Policy.{Policy}
use Rattle.module_config.specs.declared.config_file.ConfigFile.{ConfigFile}
use Rattle.module_config.specs.declared.config_file.ConfigText.{ConfigText}
use Rattle.module_config.specs.declared.config_file.ConfigText.TheVariants.{Says}
use Rattle.module_config.specs.declared.governor.Governor.{Governor}
use Rattle.module_config.specs.declared.governor.Governor.TheVariants as governor
use Rattle.module_config.specs.declared.governor.Placed.{Placed}

-- the options of each module: rules and naming, the severity from which on an issue fails the run, whether nothing
-- does, and whether comments are checked
pub record Wanted : Type 0 where
  pub asked : Asked
  pub minimum : Severity
  pub force : Bool
  pub checks : Bool

abbrev pub wanted_of : Policy → Wanted
wanted_of policy =
    record {
      asked = asked_of policy.settings;
      minimum = policy.minimum;
      force = policy.force;
      checks = policy.checks;
    }

abbrev pub first_said : {A : Type 0} → Option A → Option A → A → A
first_said (Some line) own default = line
first_said None own default = unwrap_or own default

abbrev pub default_rules : List Rule
default_rules = filter is_recommended all_rules

abbrev pub policy_of : Options → Options → Wanted
policy_of line own = record {
  asked =
      record {
        rules = first_said line.rules own.rules default_rules;
        naming = first_said line.naming own.naming SnakeCase;
      };
  minimum = first_said line.minimum own.minimum Notice;
  force = line.force || own.force;
  checks = line.checks || own.checks;
}

-- the options in a file, unless a line of it is bad or it isn't text
abbrev pub good_text : ConfigText → Option Options
good_text (Says config) =
    if length config.faults.items == 0 then Some (options_of config.said) else None
good_text _ = None

abbrev pub good_file : Option ConfigFile → Option Options
good_file None = None
good_file (Some file) = good_text file.text

abbrev pub said_in : List ConfigFile → Name → Option Options
said_in files name = good_file (find (λ file. bytes_eq name file.name.items) files)

-- THE OPTIONS by which a module is linted, unless its governor isn't known or is bad
abbrev pub wanted_by : Options → List ConfigFile → Governor → Option Wanted
wanted_by line files governor.Free = Some (policy_of line no_options)
wanted_by line files (governor.File name) = option_map (policy_of line) (said_in files name.items)
wanted_by line files (governor.Unknown f) = None

abbrev pub with_wanted : Module → Option Wanted → List (Module × Wanted)
with_wanted m None = []
with_wanted m (Some wanted) = (m, wanted) ∷ []

abbrev pub governed_in : Options → List ConfigFile → Placed → List (Module × Wanted)
governed_in line files p = with_wanted p.module (wanted_by line files p.governor)

abbrev pub pair_of : Governed → Module × Wanted
pair_of g = (g.module, wanted_of g.policy)
