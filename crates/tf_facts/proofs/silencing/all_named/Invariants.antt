use Rattle.std.proofs.Common.{◌≡◌, length, take}
use Rattle.std.specs.Prelude.{◌==◌}
use Rattle.std.specs.List.{list_any, slice_split}
use Rattle.rule_set.specs.RuleSets.{holds}
use Rattle.tf_facts.specs.Silencing.{names, trim_blanks}
use Rattle.rule_set.specs.declared.rule.Rule.{Rule}
use Rattle.tf_facts.proofs.silencing.all_named.Given as goal

abbrev pub invariant-loop-part : goal.invariant-loop-part
invariant-loop-part l = (rule : Rule) → holds l.set rule ≡ list_any (λ part. names rule (trim_blanks part)) (take (length l.yielded) (slice_split (λ b. b == 44) l.list))
