use Rattle.std.proofs.Common.{◌∙◌, ap, sym, arith, ◌++◌, ◌∷◌, [], map}
use Rattle.tf_rules.specs.Findings.{says_of}
use Rattle.tf_rules.specs.Stored.{issue_at}
use Rattle.tf_rules.specs.Inner.Entries.{issues_of}
use Rattle.tf_rules.specs.Inner.StoredViews.{place_of}
use Rattle.tf_rules.proofs.EntryLemmas.{put_all, put_each}
use Rattle.tf_rules.proofs.FindingLemmas.{map-map}
use Rattle.tf_rules.proofs.findings.push_places.Goals as goal

pub returns : goal.returns
returns c =
    put_all (λ x. issue_at c.args.rule (says_of c.args.text.now (place_of x)) ∷ []) c.args.places.now c.loop-at.at-index (issues_of c.args.entries.now.items) (issues_of c.loop-at.entries.items)
    (omega (arith, c.loop-at-test.false)) c.loop-at.invariant
    ∙ ap (λ r. issues_of c.args.entries.now.items ++ r)
    (put_each (λ p. issue_at c.args.rule (says_of c.args.text.now p)) place_of c.args.places.now
    ∙ map-map (λ p. issue_at c.args.rule (says_of c.args.text.now p)) place_of c.args.places.now
    ∙ sym (map-map (issue_at c.args.rule) (λ x. says_of c.args.text.now (place_of x)) c.args.places.now)
    ∙ ap (map (issue_at c.args.rule)) (sym (map-map (says_of c.args.text.now) place_of c.args.places.now)))
