use Rattle.std.proofs.Common.{◌∙◌, ◌++◌, ap, codes}
use Rattle.tf_facts.specs.References.{last_of}
use Rattle.tf_rules.specs.Findings.{kind_text}
use Rattle.tf_rules.specs.Inner.StoredViews.{stored_names}
use Rattle.tf_rules.proofs.StatementLemmas.{told_by_name}
use Rattle.tf_rules.proofs.statement.about_naming.Goals as goal

pub returns : goal.returns
returns c =
    told_by_name _ _ (codes " name \"") _ _ c.after_misnamed-rest.result.now c.before_misnamed-front.ensures c.last_label-name.ensures
    ∙ ap (λ r. kind_text c.args.declaration.now.kind ++ (codes " name \"" ++ (last_of (stored_names c.args.declaration.now.names) ++ r))) c.after_misnamed-rest.ensures
