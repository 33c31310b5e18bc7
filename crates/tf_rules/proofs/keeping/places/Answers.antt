use Rattle.tf_rules.specs.Issues.{place_in}
use Rattle.tf_rules.specs.Inner.StoredViews.{place_of}
use Rattle.tf_rules.proofs.KeepingLemmas.{begins_single}
use Rattle.tf_rules.proofs.keeping.places.Goals as goal

pub loop-number-init : goal.loop-number-init
loop-number-init c = begins_single place_of (place_in c.args.locator.file) c.args.locator c.args.numbers.now c.in_ok-kept.kept.items c.in_ok-kept.ensures.items c.requires
