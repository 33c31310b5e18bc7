use Rattle.std.proofs.Common.{[], ◌∷◌}
use Rattle.tf_rules.specs.Issues.{place_in}
use Rattle.tf_rules.specs.Inner.StoredViews.{place_of}
use Rattle.tf_rules.specs.Inner.Locating.{IsKeeping}
use Rattle.tf_rules.proofs.keeping.places.Given as goal

abbrev pub invariant-loop-number : goal.invariant-loop-number
invariant-loop-number l = IsKeeping place_of (place_in l.fn.locator.file) (λ n. n ∷ []) l.fn.locator.file l.numbers l.kept.items l.number-index l.locator
