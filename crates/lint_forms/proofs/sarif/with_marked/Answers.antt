use Rattle.std.proofs.Common.{◌++◌, ap}
use Rattle.json.specs.Print.{print}
use Rattle.lint_forms.specs.Remarks.{said_by}
use Rattle.lint_forms.proofs.ShapeLemmas.{ok_as, result_words}
use Rattle.lint_forms.proofs.sarif.with_marked.Goals as goal

pub returns : goal.returns
returns c =
    ok_as (λ v. v.items) c.with_parts.result _ _
    (ap (λ l. c.args.text.items ++ print l)
    (result_words (said_by c.args.said) c.args.mark.now c.args.uri.now c.rule_id-name.result.now c.rule_index-index.result c.level_word-level.result.now
    c.rule_id-name.ensures c.rule_index-index.ensures c.level_word-level.ensures))
    c.with_parts.ensures
