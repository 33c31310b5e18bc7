use Rattle.std.proofs.Common.{◌∙◌, ◌++◌, [], ap, codes}
use Rattle.std.proofs.lemmas.List.{append-nil}
use Rattle.tf_facts.specs.References.{last_of}
use Rattle.tf_rules.specs.Findings.{kind_text}
use Rattle.tf_rules.specs.Inner.StoredViews.{stored_names}
use Rattle.tf_rules.proofs.StatementLemmas.{told_by_name}
use Rattle.tf_rules.proofs.statement.about_branch.Goals as goal

pub returns : goal.returns
returns c =
    told_by_name _ _ (codes " \"") _ _ (codes "\" source uses a default branch: " ++ (c.args.branch.now ++ [])) c.before_name-front.ensures c.last_label-name.ensures
    ∙ ap (λ r. kind_text c.args.declaration.now.kind ++ (codes " \"" ++ (last_of (stored_names c.args.declaration.now.names) ++ (codes "\" source uses a default branch: " ++ r)))) (append-nil c.args.branch.now)
