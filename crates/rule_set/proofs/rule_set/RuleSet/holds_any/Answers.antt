use Rattle.std.proofs.Common.{Bool, ℕ, false, get_or}
use Rattle.rule_set.proofs.SetLemmas.{regrouped}
use Rattle.rule_set.proofs.rule_set.RuleSet.holds_any.Goals as goal

pub returns : goal.returns
returns c = let at : ℕ → Bool = λ n. get_or c.args.self.held n false in regrouped (at 0) (at 1) (at 2) (at 3) (at 4) (at 5) (at 6) (at 7) (at 8) (at 9)
