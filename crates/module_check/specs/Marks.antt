-- THE PART of a text that is marked for a place: the cluster in its column, as the caret of a message stands below it on a
-- terminal. It is empty if the line ends before that column. Our own choice.
use Rattle.std.specs.Prelude.{◌≡◌, ℕ, ◌+◌, ◌-◌, List, length}
use Rattle.hcl_source.specs.Places.{line_before, line_of}
use Rattle.hcl_source.specs.declared.fault.Position.{Position}
use Rattle.text_places.specs.declared.ranges.Range.{Range}
use Rattle.source_snippet.specs.Snippets.{after_lines, before_column, first_clusters, nth_line}
use Rattle.text_places.specs.Places.{place_at}
use Rattle.text_places.specs.declared.place.Units.{Units}

-- the offset at which the line of this number begins, the first being 1
abbrev pub line_start : ℕ → List ℕ → ℕ
line_start number text = length text - length (after_lines (number - 1) text)

abbrev pub marked_from : List ℕ → Position → ℕ
marked_from text at =
    line_start at.line text + length (before_column at.column (nth_line at.line text))

abbrev pub marked_to : List ℕ → Position → ℕ
marked_to text at =
    line_start at.line text + length (first_clusters at.column (nth_line at.line text))

-- a cluster of its line begins at this offset
abbrev pub BeginsCluster : List ℕ → ℕ → Type 0
BeginsCluster text at =
    (count : ℕ) × (line_before text at ≡ first_clusters count (nth_line (line_of text at) text))

-- THE RANGE of that part, as an editor counts places
abbrev pub marked_range : Units → List ℕ → Position → Range
marked_range units text at = record {
  start = place_at units text (marked_from text at);
  end = place_at units text (marked_to text at);
}

-- a text in which places are marked, and the units in which an editor counts
pub record MarkedText : Type 0 where
  pub units : Units
  pub text : List ℕ
