use Rattle.std.proofs.Common.{◌++◌, ap}
use Rattle.std.specs.Prelude.{string_bytes}
use Rattle.json.specs.Print.{print}
use Rattle.lint_forms.specs.Remarks.{said_by}
use Rattle.lint_forms.proofs.ShapeLemmas.{entry_tokens, ok_as}
use Rattle.lint_forms.proofs.gitlab.with_entry.Goals as goal

pub returns : goal.returns
returns c =
    ok_as (λ v. v.items) c.with_parts.result _ _
    (ap (λ l. c.args.text.items ++ print l)
    (entry_tokens (said_by c.args.entry.now.said) (string_bytes c.args.entry.now.mark) c.rule_id-name.result.now c.quality_word-severity.result.now c.as_str-mark.result.now
    c.rule_id-name.ensures c.quality_word-severity.ensures c.as_str-mark.ensures.value))
    c.with_parts.ensures
