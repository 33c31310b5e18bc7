use Rattle.std.proofs.Common.{◌∙◌, ◌++◌, ap}
use Rattle.std.specs.Prelude.{string_bytes}
use Rattle.json.specs.Print.{print}
use Rattle.lint_forms.specs.Remarks.{said_by}
use Rattle.lint_forms.proofs.ShapeLemmas.{ok_as, result_tokens}
use Rattle.lint_forms.proofs.sarif.with_result.Goals as goal

pub returns : goal.returns
returns c =
    ok_as (λ v. v.items) c.with_marked.result _ _
    (ap (λ l. c.args.text.items ++ print l)
    (result_tokens (said_by c.args.entry.now.said) (string_bytes c.args.entry.now.mark) c.as_str-2.result.now c.as_str.result.now
    (c.as_str-2.ensures.value ∙ c.in_ok-uri.ensures) c.as_str.ensures.value))
    c.with_marked.ensures
