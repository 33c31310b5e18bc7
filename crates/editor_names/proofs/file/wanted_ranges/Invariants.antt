use Rattle.std.proofs.Common.{◌≡◌, map, take}
use Rattle.std.specs.Prelude.{filter}
use Rattle.tf_names.specs.Views.{occurrence_seen}
use Rattle.editor_names.specs.Names.{is_wanted, range_of}
use Rattle.editor_names.specs.Views.{query_seen}
use Rattle.editor_names.proofs.file.wanted_ranges.Given as goal

abbrev pub invariant-loop-occurrence : goal.invariant-loop-occurrence
invariant-loop-occurrence l =
    l.ranges.items ≡ map (range_of l.places.units l.places.text) (filter (is_wanted (query_seen l.query)) (map occurrence_seen (take l.occurrence-index l.occurrences)))
