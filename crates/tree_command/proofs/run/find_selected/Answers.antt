use Rattle.std.proofs.Common.{◌≡◌, map}
use Rattle.tree_command.specs.Inner.Asked.{selection_view}
use Rattle.tree_command.specs.Ends.{IsSelected}
use Rattle.tree_words.specs.Shards.{picked_of}
use Rattle.tree_command.proofs.PathLemmas.{if_ok_more}
use Rattle.tree_command.proofs.run.find_selected.Goals as goal

pub returns-clause-finds : goal.returns-clause-finds
returns-clause-finds g c =
    if_ok_more c.pick.result (λ p. p.items ≡ picked_of c.args.selection.shard c.in_ok-found-2.found.items)
    (λ p. IsSelected (g.T.Tree.files c.args.tree.now) (g.T.Tree.faults c.args.tree.now) (g.T.Tree.faults c.find.new.tree) (selection_view c.args.selection) (map (λ operand. operand.now) c.args.operands.now) p.items)
    c.pick.ensures (λ p e. (c.in_ok-found.found.items, c.in_ok-found.ensures.finds, c.in_ok-found.ensures.real, (c.in_ok-found-2.found.items, c.in_ok-found-2.ensures c.in_ok-found.ensures.finds.rises, e)))
