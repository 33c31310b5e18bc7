use Rattle.std.proofs.Common.{◌∙◌, ap, sym, arith, ◌++◌}
use Rattle.std.proofs.lemmas.List.Folds.{flat_map-map}
use Rattle.tf_rules.specs.Inner.Entries.{issues_declared, issues_of}
use Rattle.tf_rules.specs.Inner.StoredViews.{stored_declaration}
use Rattle.tf_rules.proofs.EntryLemmas.{put_all, put_more}
use Rattle.tf_rules.proofs.findings.push_declarations.Goals as goal

pub loop-declaration-preserved : goal.loop-declaration-preserved
loop-declaration-preserved c =
    put_more (λ x. issues_declared c.args.settings.now c.args.used.now (stored_declaration x)) c.args.declarations.now c.loop-declaration.declaration-index c.declaration-item.result
    (issues_of c.args.entries.now.items) (issues_of c.loop-declaration.entries.items) (issues_of c.push_findings.new.entries.items)
    (omega (arith, c.loop-declaration-test.true)) c.declaration-item.is c.loop-declaration.invariant
    c.in_ok-push_findings.ensures

pub returns : goal.returns
returns c =
    put_all (λ x. issues_declared c.args.settings.now c.args.used.now (stored_declaration x)) c.args.declarations.now c.loop-declaration.declaration-index
    (issues_of c.args.entries.now.items) (issues_of c.loop-declaration.entries.items)
    (omega (arith, c.loop-declaration-test.false)) c.loop-declaration.invariant
    ∙ ap (λ r. issues_of c.args.entries.now.items ++ r) (sym (flat_map-map (issues_declared c.args.settings.now c.args.used.now) stored_declaration c.args.declarations.now))
