use Rattle.std.proofs.Common.{ap}
use Rattle.file_tree.specs.Files.{Name}
use Rattle.module_check.proofs.CheckLemmas.{tells_loaded}
use Rattle.module_check.proofs.judge.state_of.Goals as goal

pub returns-clause-is : goal.returns-clause-is
returns-clause-is g c =
    let files = g.T.Tree.files c.args.tree.now in
    let name = c.args.name.now in
    let bytes = c.as_bytes.result.now in
    let l = c.read_from-loaded.ensures.loaded in
    c.state_of_loaded.ensures (files.told (files.real name))
    (tells_loaded (files.told (files.real name)) (files.told (files.real bytes)) _ _ l.0 c.read_from-loaded.result c.in-Ok.ensures.bytes (ap (λ (n : Name). files.told (files.real n)) c.as_bytes.ensures.value) l.1 l.3)
