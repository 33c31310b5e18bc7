use Rattle.std.proofs.Common.{◌∙◌, map}
use Rattle.file_tree.proofs.SearchLemmas.{sees_any}
use Rattle.file_tree.proofs.walk.look.Goals as goal

pub returns-clause-sees : goal.returns-clause-sees
returns-clause-sees g c =
    sees_any (g.T.Tree.files c.args.tree.now) _ (map (λ operand. operand.now) c.args.operands.now) _ _ c.in_ok-search.search _ (c.in_ok-chooser.ensures ∙ c.any.ensures) c.in_ok-search.ensures.sees c.in_ok-looked.ensures
