use Rattle.std.proofs.Common.{◌∙◌, ap, refl}
use Rattle.tf_rules.specs.Answers.{listed_issue}
use Rattle.tfrules_command.specs.Inner.Parts.{opening_words}
use Rattle.tfrules_command.proofs.PageLemmas.{goes_as}
use Rattle.tfrules_command.proofs.ReportPartLemmas.{line_is}
use Rattle.tfrules_command.proofs.report.write_issue.Goals as goal

pub returns-clause-goes : goal.returns-clause-goes
returns-clause-goes g c =
    goes_as _ _ _ _ _ _ _
    (line_is (g.N.ShownNames.names c.args.names.now) (listed_issue c.args.issue) c.name_of-name.result.now c.split_at.result.1.now c.before_message-before_message.result.now _ c.after_message-after_message.result.now c.name_of-name.ensures
    (c.split_at.ensures.back ∙ c.write_place-begin.ensures.written) (c.before_message-before_message.ensures ∙ ap opening_words c.severity.ensures) refl c.after_message-after_message.ensures)
    c.write_line.ensures.goes
