use Rattle.tfrules_command.proofs.GatherLemmas.{reads_told}
use Rattle.tfrules_command.proofs.gather.read_file.Goals as goal

pub returns-clause-reads : goal.returns-clause-reads
returns-clause-reads g c =
    let l = c.read_from-loaded.ensures.loaded in
    reads_told _ _ _ l.0 _ _ _ _ _ c.read_from-loaded.result _ c.stop_of.ensures c.in-Ok.ensures.bytes c.in-Ok.ensures.open_failed c.give_back.ensures.open_failed c.in-Ok.ensures.read_failed c.give_back.ensures.read_failed
    c.read_from-loaded.ensures.failed l.1 l.3
