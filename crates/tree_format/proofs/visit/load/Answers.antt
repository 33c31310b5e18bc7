use Rattle.std.proofs.Common.{◌∙◌, ap}
use Rattle.file_tree.specs.Files.{fault_of_reader, with_fault}
use Rattle.tree_format.proofs.KeptFormatLemmas.{loads_told, notes_load}
use Rattle.tree_format.proofs.visit.load.Goals as goal

pub returns-clause-loads : goal.returns-clause-loads
returns-clause-loads g c =
    let l = c.read_from-loaded.ensures.loaded in
    loads_told _ _ _ l.0 c.read_from-loaded.result _ c.outcome_of.ensures c.in-Ok.ensures.bytes l.1 l.3

pub returns-clause-notes : goal.returns-clause-notes
returns-clause-notes g c =
    let failed = g.T.Reader.ByteSource.failed c.read_from-loaded.new.from in
    notes_load _ _ failed c.read_from-loaded.result _ (c.give_back.ensures.faults ∙ ap (λ f. with_fault f (fault_of_reader failed)) c.in-Ok.ensures.faults) c.read_from-loaded.ensures.failed c.outcome_of.ensures
