-- Options, in the words of the definitions.
use Rattle.std.specs.Prelude.{option_map}
use Rattle.rule_set.specs.RuleSets.{rules_of}
use Rattle.module_config.specs.Lines.{Options}
use Rattle.module_config.specs.declared.said.Said.{Said}

abbrev pub options_of : Said → Options
options_of s =
    record {
      rules = option_map rules_of s.rules;
      naming = s.naming;
      minimum = s.minimum;
      force = s.force;
      checks = s.checks;
    }
