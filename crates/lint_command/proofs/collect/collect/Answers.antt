use Rattle.std.proofs.Common.{◌∙◌, ◌++◌, ap, flat_map, map, subst}
use Rattle.file_tree.specs.Ordered.{Orders}
use Rattle.file_tree.specs.Seen.{all_found}
use Rattle.module_find.specs.Modules.{AreFolders, AreModules, lost_of, told_as}
use Rattle.tree_words.specs.Shards.{picked_of}
use Rattle.lint_command.proofs.CollectLemmas.{all_told}
use Rattle.lint_command.proofs.collect.collect.Goals as goal

pub returns-clause-collects : goal.returns-clause-collects
returns-clause-collects g c = record {
  named = c.in_ok-seen.seen.named.items;
  looked = c.in_ok-seen.seen.looked.items;
  walked = g.T.Tree.faults c.look.new.tree;
  sees = c.in_ok-seen.ensures.sees;
  folders = c.in_ok-stand.stand.items;
  stand = subst (λ found. AreFolders found c.in_ok-stand.stand.items) (λ i. all_found (c.as_slice.ensures.value i) (c.as_slice-2.ensures.value i)) c.in_ok-stand.ensures;
  told = c.in_ok-all.all.faults.items;
  are = subst (λ files. AreModules files c.in_ok-seen.seen.looked.items (picked_of c.args.shard c.in_ok-stand.stand.items) c.in_ok-all.all.modules.items c.in_ok-all.all.faults.items (g.T.Tree.faults c.look.new.tree) (g.T.Tree.faults c.modules_of.new.tree)) c.look.ensures.unchanged.0
      (subst (λ l. AreModules (g.T.Tree.files c.look.new.tree) c.in_ok-seen.seen.looked.items l c.in_ok-all.all.modules.items c.in_ok-all.all.faults.items (g.T.Tree.faults c.look.new.tree) (g.T.Tree.faults c.modules_of.new.tree)) c.in_ok-folders.ensures c.in_ok-all.ensures.are);
  all = all_told c.args.shard c.in_ok-lost.lost.items (flat_map lost_of (all_found c.in_ok-seen.seen.named.items c.in_ok-seen.seen.looked.items)) c.in_ok-all.all.faults.items c.in_ok-faults-2.faults.items
      (c.in_ok-lost.ensures ∙ (λ i. map told_as (flat_map lost_of (all_found (c.as_slice-3.ensures.value i) (c.as_slice-4.ensures.value i)))))
      (subst (λ l. Orders (l ++ c.in_ok-all.all.faults.items) c.in_ok-faults-2.faults.items) c.in_ok-faults.ensures c.in_ok-faults-2.ensures);
}
