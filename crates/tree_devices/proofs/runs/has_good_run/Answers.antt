use Rattle.std.proofs.Common.{None, arith, false}
use Rattle.file_tree.specs.declared.tree.Writing.{Writing}
use Rattle.tree_devices.specs.MemoryFiles.{files_in}
use Rattle.tree_devices.specs.Inner.Told.{IsReadyIn}
use Rattle.tree_format.specs.declared.mode.Mode.TheVariants.{Write}
use Rattle.tree_devices.proofs.RunLemmas.{all_ready, ready_more}
use Rattle.tree_devices.proofs.runs.has_good_run.Goals as goal

pub loop-each-preserved : goal.loop-each-preserved
loop-each-preserved c =
    ready_more (IsReadyIn (files_in c.args.tree.now.known.items c.args.tree.now.files.items c.args.tree.now.links.items)) c.args.found.now c.loop-each.each-index c.each-item.result _ _ _ c.loop-each-test.true c.loop-each.invariant
    c.each-item.is c.is_ready.ensures c.both-are_ready.ensures

pub returns : goal.returns
returns c =
    λ e writing. c.a_run.ensures false (Write writing) c.args.found.now (record { files = files_in c.args.tree.now.known.items c.args.tree.now.files.items c.args.tree.now.links.items; faults = None; asked = None })
    (all_ready (files_in c.args.tree.now.known.items c.args.tree.now.files.items c.args.tree.now.links.items) c.args.found.now c.loop-each.each-index writing (omega (arith, c.loop-each-test.false)) (c.loop-each.invariant e))
