use Rattle.std.proofs.Common.{◌≡◌, ◌∙◌, ◌++◌, [], List, ap, sym, subst}
use Rattle.std.specs.Prelude.{OnOk}
use Rattle.std.proofs.lemmas.List.{append-nil}
use Rattle.rule_set.specs.declared.rule.Rule.{Rule}
use Rattle.rule_set.specs.declared.rule.Rule.TheVariants.{DocumentedOutputs, DocumentedVariables, ModuleVersion, NamingConvention, TypedVariables, UnusedDeclarations, ModulePinnedSource}
use Rattle.tf_rules.specs.Issues.{Issue}
use Rattle.tf_rules.specs.Inner.Entries.{issues_if_asked, issues_of}
use Rattle.tf_rules.specs.Inner.StoredViews.{stored_declaration}
use Rattle.tf_rules.proofs.EntryLemmas.{put_before}
use Rattle.tf_rules.proofs.finding.push_findings.Goals as goal

pub returns : goal.returns
returns c =
    let by : Rule → List Issue = issues_if_asked c.args.inputs.now.settings.now c.args.inputs.now.used.now (stored_declaration c.args.declaration.now) in
    let before = issues_of c.push_if_requested-6.new.entries.items in
    let last : List Issue = by ModulePinnedSource ++ [] in
    let from_6 : List Issue = by UnusedDeclarations ++ last in
    let from_5 : List Issue = by TypedVariables ++ from_6 in
    let from_4 : List Issue = by NamingConvention ++ from_5 in
    let from_3 : List Issue = by ModuleVersion ++ from_4 in
    let from_2 : List Issue = by DocumentedVariables ++ from_3 in
    let from_1 : List Issue = by DocumentedOutputs ++ from_2 in
    let is : before ++ by ModulePinnedSource ≡ issues_of c.args.entries.now.items ++ from_1 =
    ap (λ (r : List Issue). before ++ r) (sym (append-nil (by ModulePinnedSource)))
    ∙ put_before (issues_of c.push_if_requested-5.new.entries.items) (issues_of c.push_if_requested-6.new.entries.items) (by UnusedDeclarations) last c.in_ok-push_if_requested-6.ensures
    ∙ put_before (issues_of c.push_if_requested-4.new.entries.items) (issues_of c.push_if_requested-5.new.entries.items) (by TypedVariables) from_6 c.in_ok-push_if_requested-5.ensures
    ∙ put_before (issues_of c.push_if_requested-3.new.entries.items) (issues_of c.push_if_requested-4.new.entries.items) (by NamingConvention) from_5 c.in_ok-push_if_requested-4.ensures
    ∙ put_before (issues_of c.push_if_requested-2.new.entries.items) (issues_of c.push_if_requested-3.new.entries.items) (by ModuleVersion) from_4 c.in_ok-push_if_requested-3.ensures
    ∙ put_before (issues_of c.push_if_requested.new.entries.items) (issues_of c.push_if_requested-2.new.entries.items) (by DocumentedVariables) from_3 c.in_ok-push_if_requested-2.ensures
    ∙ put_before (issues_of c.args.entries.now.items) (issues_of c.push_if_requested.new.entries.items) (by DocumentedOutputs) from_2 c.in_ok-push_if_requested.ensures in
    let P : List Issue → Type 0 = λ is. OnOk c.push_if_requested-7.result (issues_of c.push_if_requested-7.new.entries.items ≡ is) in
    subst P is c.push_if_requested-7.ensures
