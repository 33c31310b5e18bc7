use Rattle.std.proofs.Common.{◌≡◌, ◌∙◌, List, ap, filter, not, subst, sym}
use Rattle.std.specs.Prelude.{IfOk}
use Rattle.tf_rules.specs.Issues.{is_silenced}
use Rattle.tf_rules.specs.Inner.Entries.{issues_of}
use Rattle.tf_rules.specs.declared.entry.IssueEntry.{IssueEntry}
use Rattle.tf_rules.proofs.SilencedLemmas.{filter_all, none_silenced, unsilenced}
use Rattle.tf_rules.proofs.silenced.shown_entries.Goals as goal

pub returns-then-is_empty : goal.returns-then-is_empty
returns-then-is_empty c = λ comments are.
    sym (filter_all (λ i. not (is_silenced comments i))
    (λ i. ap not (sym (unsilenced comments i (λ file line rule. sym (are file line rule) ∙ none_silenced c.args.lines.now (c.is_empty.ensures.0 c.if-is_empty.true) file line rule))))
    (issues_of c.args.entries.items))

pub returns : goal.returns
returns c = λ comments are.
    subst (λ (es : List IssueEntry). IfOk c.without_silenced.result (λ shown. issues_of shown.items ≡ filter (λ i. not (is_silenced comments i)) (issues_of es))) c.as_slice.ensures.value (c.without_silenced.ensures comments are)
