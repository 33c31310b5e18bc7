use Rattle.std.proofs.Common.{◌∙◌, ap, codes}
use Rattle.std.specs.Prelude.{option_map}
use Rattle.clap.proofs.WalkLemmas.{first_value-rows}
use Rattle.clap.specs.Words.{found_of}
use Rattle.lint_command.specs.Line.{explain_request}
use Rattle.lint_command.proofs.options.explanation_asked.Goals as goal

pub returns : goal.returns
returns c =
    c.explanation_given.ensures ∙ ap (option_map explain_request) (c.get_str.ensures ∙ first_value-rows (found_of c.args.matches.now) (codes "explain"))
