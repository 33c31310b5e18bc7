use Rattle.std.proofs.Common.{◌∙◌, ap, codes}
use Rattle.clap.proofs.WalkLemmas.{first_value-rows}
use Rattle.clap.specs.Words.{found_of}
use Rattle.lint_command.specs.Line.{form_given}
use Rattle.lint_command.proofs.options.form_of.Goals as goal

pub returns : goal.returns
returns c = c.form_taken.ensures ∙ ap form_given (c.get_str.ensures ∙ first_value-rows (found_of c.args.matches.now) (codes "format"))
