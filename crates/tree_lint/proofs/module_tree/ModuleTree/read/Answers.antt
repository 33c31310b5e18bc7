use Rattle.std.proofs.Common.{◌∙◌, ap}
use Rattle.file_tree.specs.Files.{fault_of_reader, with_fault}
use Rattle.tree_lint.proofs.FileLemmas.{read_here}
use Rattle.tree_lint.proofs.module_tree.ModuleTree.read.Goals as goal

pub returns-clause-reads : goal.returns-clause-reads
returns-clause-reads g c =
    let l = c.read_from-loaded.ensures.loaded in
    let failed = g.T.Reader.ByteSource.failed c.read_from-loaded.new.from in
    read_here _ _ _ l.0 _ _ failed c.read_from-loaded.result _ c.stop_of.ensures (c.close.ensures.faults ∙ ap (λ f. with_fault f (fault_of_reader failed)) c.in-Ok.ensures.faults)
    c.read_from-loaded.ensures.failed c.in-Ok.ensures.bytes l.1 l.3
