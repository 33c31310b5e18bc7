use Rattle.std.proofs.Common.{◌∙◌, ap, codes, inr}
use Rattle.clap.proofs.WalkLemmas.{raw_values-rows}
use Rattle.clap.specs.Words.{found_of, rows_of}
use Rattle.tfrules_command.specs.Line.{request_with}
use Rattle.command_line.proofs.AskedLemmas.{asked_more}
use Rattle.tfrules_command.proofs.options.options_of.Goals as goal

pub returns-in-Some : goal.returns-in-Some
returns-in-Some c =
    asked_more c.options_with.ensures (ap (request_with (rows_of (found_of c.args.matches.now))) (c.in-Some.ensures ∙ raw_values-rows (found_of c.args.matches.now) (codes "file")))

pub returns-in-None : goal.returns-in-None
returns-in-None c = inr (ap (request_with (rows_of (found_of c.args.matches.now))) (c.in-None.ensures ∙ raw_values-rows (found_of c.args.matches.now) (codes "file")))
