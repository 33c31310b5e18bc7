use Rattle.std.proofs.Common.{◌∙◌, ◌∷◌, [], ap, ap₂, sym}
use Rattle.std.specs.Prelude.{codes}
use Rattle.json.specs.Token.{begin_object, end_object, key, string}
use Rattle.lint_forms.proofs.AddsLemmas.{adds_as}
use Rattle.editor_messages.specs.Inner.Heads.{rule_tokens}
use Rattle.editor_messages.proofs.diagnostic.write_rule.Goals as goal

pub returns : goal.returns
returns c =
    adds_as c.write_parts.result c.args.writer.now c.write_parts.new.writer _ _
    (ap₂ (λ name page. key (codes "code") ∷ string name ∷ key (codes "codeDescription") ∷ begin_object ∷ key (codes "href") ∷ string page ∷ end_object ∷ []) c.name-name.ensures c.page_of-page.ensures ∙ ap rule_tokens (sym c.in-Some.is))
    c.write_parts.ensures
