use Rattle.std.proofs.Common.{◌≡◌, ◌++◌, ◌∷◌, [], take}
use Rattle.std.specs.List.{flat_map}
use Rattle.tf_rules.specs.Findings.{says_of}
use Rattle.tf_rules.specs.Stored.{issue_at}
use Rattle.tf_rules.specs.Inner.Entries.{issues_of}
use Rattle.tf_rules.specs.Inner.StoredViews.{place_of}
use Rattle.tf_rules.proofs.findings.push_places.Given as goal

abbrev pub invariant-loop-at : goal.invariant-loop-at
invariant-loop-at l = issues_of l.entries.items ≡ issues_of l.fn.entries.items ++ flat_map (λ x. issue_at l.rule (says_of l.text (place_of x)) ∷ []) (take l.at-index l.places)
