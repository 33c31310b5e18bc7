use Rattle.std.proofs.Common.{rules}
use Rattle.std.proofs.lemmas.Fn.{dedup_same}
use Rattle.file_tree.proofs.OrderLemmas.{orders, same_name}
use Rattle.file_tree.proofs.walk.in_order.Goals as goal

pub returns : goal.returns
returns c =
    orders _ _ c.args.found.items c.sort_unstable.new.self.items c.dedup_by.new.self.items c.sort_unstable.ensures.permutation c.sort_unstable.ensures.sorted
    (dedup_same _ same_name _ (λ x y b f' x' y' k. search rules) _ _ c.dedup_by.ensures.filtered)
