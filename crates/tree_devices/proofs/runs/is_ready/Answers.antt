use Rattle.tree_devices.specs.MemoryFiles.{files_in}
use Rattle.tree_devices.proofs.RunLemmas.{ready_in}
use Rattle.tree_devices.proofs.runs.is_ready.Goals as goal

pub returns-in-None : goal.returns-in-None
returns-in-None c =
    λ e. ready_in (files_in c.args.tree.now.known.items c.args.tree.now.files.items c.args.tree.now.links.items) c.args.found.now _ c.in-None.is c.as_slice.ensures.value (c.is_told.ensures e)
