use Rattle.std.proofs.Common.{◌∙◌, ap, ◌++◌, List}
use Rattle.rule_set.specs.declared.rule.Rule.TheVariants.{CommentSyntax, DeprecatedIndex, DeprecatedInterpolation}
use Rattle.tf_rules.specs.Issues.{Issue}
use Rattle.tf_rules.specs.Inner.Entries.{issues_by, issues_of}
use Rattle.tf_rules.proofs.ExchangeLemmas.{all_reported, declaration_by_declaration}
use Rattle.tf_rules.proofs.facts.Facts.reported_entries.Goals as goal

pub returns : goal.returns
returns c =
    let s = c.args.settings.now in
    let kept = c.args.self.now in
    all_reported s kept (issues_of c.push_declared.new.entries.items)
    (c.in_ok-push_declared.ensures
    ∙ ap (λ (is : List Issue). is ++ declaration_by_declaration s kept)
    (c.in_ok-push_interpolations.ensures
    ∙ ap (λ (is : List Issue). is ++ issues_by s kept DeprecatedInterpolation)
    (c.in_ok-push_indexes.ensures
    ∙ ap (λ (is : List Issue). is ++ issues_by s kept DeprecatedIndex)
    (c.in_ok-push_slash_comments.ensures
    ∙ ap (λ (is : List Issue). is ++ issues_by s kept CommentSyntax) (ap issues_of c.new-entries.ensures.items)))))
