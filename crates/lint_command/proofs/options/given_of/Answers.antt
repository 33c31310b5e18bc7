use Rattle.std.proofs.Common.{◌∙◌, ap, codes}
use Rattle.std.specs.Prelude.{not, option_map}
use Rattle.clap.proofs.WalkLemmas.{first_value-rows}
use Rattle.clap.specs.Words.{found_of}
use Rattle.module_config.specs.Lists.{rules_in}
use Rattle.tfrules_command.specs.Line.{naming_of_text, severity_of_text}
use Rattle.lint_command.specs.Line.{rules_taken, value_or_usage}
use Rattle.lint_command.specs.declared.usage.Usage.TheVariants.{BadNaming, BadSeverity}
use Rattle.lint_command.proofs.LineLemmas.{given_parts}
use Rattle.lint_command.proofs.options.given_of.Goals as goal

pub returns : goal.returns
returns c =
    let found = found_of c.args.matches.now in
    c.given_by.ensures
    ∙ given_parts _ _ _ _ _ _ _ _ _ _ _ _ (c.rules_taken-rules.ensures ∙ ap (λ o. rules_taken (option_map rules_in o)) (c.get_str.ensures ∙ first_value-rows found (codes "rules")))
    (c.naming_taken-naming.ensures ∙ ap (λ o. value_or_usage BadNaming (option_map naming_of_text o)) (c.get_str-2.ensures ∙ first_value-rows found (codes "naming")))
    (c.severity_taken-minimum.ensures ∙ ap (λ o. value_or_usage BadSeverity (option_map severity_of_text o)) (c.get_str-3.ensures ∙ first_value-rows found (codes "minimum-failure-severity"))) c.is_given-force.ensures c.is_given-checks.ensures
    (ap not c.is_given.ensures)
