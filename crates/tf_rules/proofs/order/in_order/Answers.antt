use Rattle.std.proofs.Common.{rules}
use Rattle.std.proofs.lemmas.List.Sorted.{answers_always}
use Rattle.rule_set.specs.Rules.{rank}
use Rattle.tf_rules.proofs.order.in_order.Goals as goal

pub returns-clause-ordered : goal.returns-clause-ordered
returns-clause-ordered c =
    c.in_ok-sort_by_key.ensures.sorted (λ e. (e.at.file, e.at.token, rank e.rule)) (answers_always _ _ _ (λ f a r f' k. search rules))
