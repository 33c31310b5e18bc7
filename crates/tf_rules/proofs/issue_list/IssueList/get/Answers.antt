use Rattle.std.proofs.Common.{◌≡◌, ◌∙◌, ap, sym, List, length, arith}
use Rattle.std.proofs.lemmas.List.{length-map}
use Rattle.std.proofs.lemmas.Option.{slice_get-map}
use Rattle.std.specs.Option.{option_map}
use Rattle.std.specs.Prelude.{Some, slice_get}
use Rattle.tf_rules.specs.Inner.Entries.{shown_of}
use Rattle.tf_rules.specs.declared.entry.IssueEntry.{IssueEntry}
use Rattle.tf_rules.specs.declared.issue.Issue.{Issue}
use Rattle.tf_rules.proofs.issue_list.IssueList.get.Goals as goal

pub entry_at-requires : goal.entry_at-requires
entry_at-requires c =
    let same : length c.args.self.now ≡ length c.deref.result.now =
    ap length (sym c.self.view_is) ∙ length-map c.self.inside.entries.items shown_of ∙ ap (λ (es : List IssueEntry). length es) (sym c.deref.ensures.value) in
    omega (arith, c.requires, same)

pub returns : goal.returns
returns c =
    ap (λ (is : List Issue). slice_get is c.args.i) (sym c.self.view_is)
    ∙ slice_get-map shown_of c.self.inside.entries.items c.args.i
    ∙ ap (option_map shown_of) (ap (λ (es : List IssueEntry). slice_get es c.args.i) (sym c.deref.ensures.value) ∙ c.entry_at.ensures)
    ∙ ap Some (sym c.listed_issue_of.ensures)
