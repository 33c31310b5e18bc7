-- The issues once more, of stored facts: for the law that the stored facts of the files are enough.
use Rattle.std.specs.Prelude.{not, List, filter, map}
use Rattle.std.specs.List.{flat_map}
use Rattle.tf_rules.specs.Findings.{findings}
use Rattle.tf_rules.specs.Issues.{Issue, Asked, is_silenced}
use Rattle.tf_rules.specs.Stored.{Stored, issue_at}

abbrev pub reported_of_stored : Asked → Stored → List Issue
reported_of_stored asked kept =
    flat_map (λ rule. map (issue_at rule) (findings asked.naming kept.references kept.facts rule))
    asked.rules

abbrev pub issues_of_stored : Asked → Stored → List Issue
issues_of_stored asked kept =
    filter (λ i. not (is_silenced kept.facts.comments i)) (reported_of_stored asked kept)
