use Rattle.std.proofs.Common.{◌∙◌, ap}
use Rattle.file_tree.specs.Files.{fault_of_reader, with_fault}
use Rattle.module_config.specs.Configs.{IsRead}
use Rattle.module_config.specs.Inner.Reading.{IsTextOf}
use Rattle.module_config.proofs.ReadLemmas.{if_ok_more, text_read}
use Rattle.module_config.proofs.config_file.read_text.Goals as goal

pub returns-clause-is : goal.returns-clause-is
returns-clause-is g c =
    let l = c.read_from-loaded.ensures.loaded in
    let failed = g.T.Reader.ByteSource.failed c.read_from-loaded.new.from in
    if_ok_more c.text_of.result (IsTextOf c.read_from-loaded.result) (IsRead (g.T.Tree.files c.args.tree.now) c.args.name.now (g.T.Tree.faults c.args.tree.now) (g.T.Tree.faults c.give_back.new.self)) c.text_of.ensures
    (text_read (g.T.Tree.files c.args.tree.now) c.args.name.now _ _ l.0 _ _ failed c.read_from-loaded.result (c.give_back.ensures.faults ∙ ap (λ f. with_fault f (fault_of_reader failed)) c.in-Ok.ensures.faults)
    c.read_from-loaded.ensures.failed c.in-Ok.ensures.bytes l.1 l.3)
