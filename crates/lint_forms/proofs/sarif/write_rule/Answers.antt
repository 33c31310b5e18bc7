use Rattle.std.proofs.Common.{◌∙◌}
use Rattle.lint_forms.proofs.AddsLemmas.{adds_as}
use Rattle.lint_forms.proofs.SarifLemmas.{rule_by}
use Rattle.lint_forms.proofs.sarif.write_rule.Goals as goal

pub returns : goal.returns
returns c =
    adds_as c.write_described.result c.args.writer.now c.write_described.new.writer _ _
    (rule_by c.args.rule c.name-name.result.now c.reports-short.result.now c.as_str.result.now c.reason-why.result.now c.as_str-2.result.now c.level_word-level.result.now
    c.name-name.ensures c.reports-short.ensures (c.as_str.ensures.value ∙ c.in_ok-full.ensures) c.reason-why.ensures (c.as_str-2.ensures.value ∙ c.in_ok-page.ensures) c.level_word-level.ensures)
    c.write_described.ensures
