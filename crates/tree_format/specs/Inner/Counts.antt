-- Tallies with one more file.
use Rattle.std.specs.Prelude.{◌<◌, ◌+◌}
use Rattle.tree_format.specs.declared.outcome.Outcome.{Outcome}
use Rattle.tree_format.specs.declared.outcome.Outcome.TheVariants as outcome
use Rattle.tree_format.specs.declared.tally.Tally.{Tally}

-- the tally with one more file
abbrev pub tally_with : Tally → Outcome → Tally
tally_with t outcome.Formatted = record t { unchanged = t.unchanged + 1 }
tally_with t (outcome.Changed how) = record t { changed = t.changed + 1 }
tally_with t (outcome.Differs text) = record t { changed = t.changed + 1 }
tally_with t (outcome.Refused fault snippet) = record t { refused = t.refused + 1 }
tally_with t (outcome.Failed fault) = record t { failed = t.failed + 1 }

-- each number of the tally can be increased
pub record CanGrow (t : Tally) : Type 0 where
  pub changed : t.changed + 1 < 18446744073709551616
  pub unchanged : t.unchanged + 1 < 18446744073709551616
  pub refused : t.refused + 1 < 18446744073709551616
  pub failed : t.failed + 1 < 18446744073709551616
