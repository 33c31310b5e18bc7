use Rattle.std.proofs.Common.{◌++◌, ◌∷◌, [], refl, subst, sym}
use Rattle.file_tree.specs.Inner.Searching.{AreOrdered}
use Rattle.file_tree.proofs.SearchLemmas.{ordered_more}
use Rattle.file_tree.proofs.walk.order_each.Goals as goal

pub loop-one-preserved : goal.loop-one-preserved
loop-one-preserved c =
    subst (λ l. AreOrdered (c.loop-one.yielded ++ c.in-Some.one ∷ []) l) (sym c.in-Ok.ensures.items)
    (ordered_more c.loop-one.yielded c.loop-one.ordered.items c.in-Some.one (record { folder = c.in-Some.one.folder; found = c.in_order-found.result }) c.loop-one.invariant refl c.in_order-found.ensures)
