use Rattle.std.proofs.Common.{◌≡◌, ◌∙◌, ap, sym, subst, List, Bool, not, map, filter}
use Rattle.tf_rules.specs.Answers.{shown_issue}
use Rattle.tf_facts.specs.Comments.{Comment}
use Rattle.tf_rules.specs.Issues.{Asked, Issue, Place, asked_of, is_silenced, issues, reported_issues}
use Rattle.tf_rules.specs.Stored.{Stored}
use Rattle.tf_rules.specs.StoredIssues.{issues_of_stored, reported_of_stored}
use Rattle.tf_rules.specs.Ordered.{Ascends}
use Rattle.tf_rules.specs.Inner.Entries.{issue_of, issues_of}
use Rattle.tf_rules.specs.Inner.StoredViews.{stored_comment}
use Rattle.tf_rules.proofs.DistinctLemmas.{reported_disjoint}
use Rattle.tf_rules.proofs.FindingLemmas.{map-map}
use Rattle.tf_rules.proofs.StoredLemmas.{issues_of_kept_is, reported_is}
use Rattle.tf_rules.proofs.SortLemmas.{Differ, is_report}
use Rattle.tf_rules.proofs.facts.Facts.issue_list.Goals as goal

pub returns : goal.returns
returns c = λ files kept rising.
    let asked : Asked = asked_of c.args.settings.now in
    let comments : List (Comment Place) = map stored_comment c.deref.result.now in
    let p : Issue → Bool = λ i. not (is_silenced comments i) in
    let found : List Issue = reported_of_stored asked c.args.self.now in
    let told : c.args.self.now.facts.comments ≡ comments = ap (λ (k : Stored). k.facts.comments) (sym c.self.view_is) ∙ ap (map stored_comment) (sym c.deref.ensures.value) in
    let is : issues asked files ≡ filter p found =
    issues_of_kept_is asked files
    ∙ ap (issues_of_stored asked) (sym kept)
    ∙ ap (λ (cs : List (Comment Place)). filter (λ i. not (is_silenced cs i)) found) told in
    let all : reported_issues asked files ≡ found = reported_is asked files ∙ ap (reported_of_stored asked) (sym kept) in
    let disjoint : Ascends Differ found = subst (λ (is : List Issue). Ascends Differ is) all (reported_disjoint c.args.settings.now files rising) in
    let left : issues_of c.in_ok-shown.shown.items ≡ filter p (issues_of c.in_ok-sorted.sorted.items) = c.in_ok-shown.ensures comments c.in_ok-lines.ensures in
    record {
      report = filter p (issues_of c.in_ok-sorted.sorted.items);
      is = is_report asked files p found c.in_ok-entries.entries.items c.in_ok-sorted.sorted.items is disjoint c.in_ok-entries.ensures c.in_ok-sorted.ensures.all c.in_ok-sorted.ensures.ordered;
      same = sym (c.new.ensures ∙ sym (map-map shown_issue issue_of c.in_ok-shown.shown.items) ∙ ap (map shown_issue) left);
    }
