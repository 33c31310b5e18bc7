use Rattle.std.proofs.Common.{refl}
use Rattle.module_config.specs.Inner.Reading.{AddsPlaced}
use Rattle.module_config.proofs.ReadLemmas.{on_ok_more}
use Rattle.module_config.proofs.configure.add_placed.Goals as goal

pub returns-clause-adds : goal.returns-clause-adds
returns-clause-adds g c =
    on_ok_more c.keep.result _ (AddsPlaced (g.T.Tree.files c.args.tree.now) c.args.start.now c.args.one (g.T.Tree.faults c.args.tree.now) (g.T.Tree.faults c.governor_of.new.tree) c.args.placed.now.items c.keep.new.placed.items) c.keep.ensures
    (λ h. (record { «module» = c.args.one; governor = c.in_ok-governor.governor }, refl, c.in_ok-governor.ensures.is, h))
