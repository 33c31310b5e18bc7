use Rattle.std.proofs.Common.{refl, subst}
use Rattle.module_config.specs.Configs.{IsRead}
use Rattle.module_config.specs.Inner.Reading.{AddsFile}
use Rattle.module_config.proofs.ReadLemmas.{on_ok_more}
use Rattle.module_config.proofs.config_file.add_file.Goals as goal

pub returns-clause-adds : goal.returns-clause-adds
returns-clause-adds g c =
    let files = g.T.Tree.files c.args.tree.now in
    let was = g.T.Tree.faults c.args.tree.now in
    let is = g.T.Tree.faults c.read_text.new.tree in
    on_ok_more c.keep.result _ (AddsFile files c.args.found.name.items was is c.args.files.now.items c.keep.new.files.items) c.keep.ensures
    (λ h. (record { name = c.args.found.name; text = c.in_ok-text.text }, refl, subst (λ n. IsRead files n was is c.in_ok-text.text) c.as_slice.ensures.value c.in_ok-text.ensures.is, h))
