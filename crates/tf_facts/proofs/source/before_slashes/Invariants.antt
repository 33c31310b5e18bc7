use Rattle.std.proofs.Common.{◌≡◌, ◌++◌, take, drop}
use Rattle.tf_facts.specs.Sources.{before_slashes}
use Rattle.tf_facts.proofs.source.before_slashes.Given as goal

abbrev pub invariant-loop-end : goal.invariant-loop-end
invariant-loop-end l = before_slashes l.text ≡ take l.end l.text ++ before_slashes (drop l.end l.text)
