use Rattle.tree_devices.proofs.UseLemmas.{all_of_calls}
use Rattle.tree_devices.proofs.uses.find_planned.Goals as goal

pub returns : goal.returns
returns c = record { real = all_of_calls c.find.result (λ found. found.items) _ _ _ _ _ c.requires.fresh c.find.ensures.real }
