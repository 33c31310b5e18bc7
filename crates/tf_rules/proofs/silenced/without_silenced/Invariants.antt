use Rattle.std.proofs.Common.{◌≡◌, List, filter, not, take}
use Rattle.tf_facts.specs.Comments.{Comment}
use Rattle.tf_rules.specs.Issues.{Place, is_silenced}
use Rattle.tf_rules.specs.Inner.Entries.{issues_of}
use Rattle.tf_rules.specs.Inner.SilencedLines.{AreSilenced}
use Rattle.tf_rules.proofs.silenced.without_silenced.Given as goal

abbrev pub invariant-loop-entry : goal.invariant-loop-entry
invariant-loop-entry l = (comments : List (Comment Place)) → AreSilenced l.lines comments → issues_of l.shown.items ≡ filter (λ i. not (is_silenced comments i)) (issues_of (take l.entry-index l.entries))
