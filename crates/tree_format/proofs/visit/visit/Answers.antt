use Rattle.std.proofs.Common.{subst}
use Rattle.file_tree.specs.Files.{Faults}
use Rattle.tree_format.specs.Looks.{Notes}
use Rattle.tree_format.proofs.KeptFormatLemmas.{asks_loaded, completed_asks, completed_looks, completed_notes, visits_loaded}
use Rattle.tree_format.proofs.visit.visit.Goals as goal

pub returns-in-Ok-clause-visits : goal.returns-in-Ok-clause-visits
returns-in-Ok-clause-visits g c =
    let mid = g.T.Tree.files c.load.new.tree in let new = g.T.Tree.files c.change_source-outcome.new.tree in
    visits_loaded c.args.shows c.args.mode (g.T.Tree.files c.args.tree.now) mid new c.args.name.now c.args.name.now c.in-Ok.source c.with_line.result
    c.in-Ok.ensures.unchanged.0 c.in-Ok.ensures.loads.0
    (completed_looks c.args.shows c.args.mode mid new c.args.name.now (mid.real c.args.name.now) c.in-Ok.source c.change_source-outcome.result c.with_line.result c.change_source-outcome.ensures.looks c.with_line.ensures)

pub returns-in-Ok-clause-notes : goal.returns-in-Ok-clause-notes
returns-in-Ok-clause-notes g c =
    let now = g.T.Tree.faults c.change_source-outcome.new.tree in
    completed_notes c.args.shows c.in-Ok.source (g.T.Tree.faults c.args.tree.now) now c.change_source-outcome.result c.with_line.result
    (subst (λ (was : Faults). Notes was now c.change_source-outcome.result) c.in-Ok.ensures.notes c.change_source-outcome.ensures.notes) c.with_line.ensures

pub returns-in-Ok-clause-asks : goal.returns-in-Ok-clause-asks
returns-in-Ok-clause-asks g c =
    let old = g.T.Tree.files c.args.tree.now in let mid = g.T.Tree.files c.load.new.tree in
    let was = g.T.Tree.asked c.args.tree.now in let now = g.T.Tree.asked c.change_source-outcome.new.tree in
    completed_asks c.args.shows c.args.mode c.args.name.now c.in-Ok.source (old.told (old.real c.args.name.now)) was now c.change_source-outcome.result c.with_line.result
    (asks_loaded c.args.mode c.args.name.now old mid was (g.T.Tree.asked c.load.new.tree) now c.change_source-outcome.result c.in-Ok.ensures.unchanged.0 c.in-Ok.ensures.unchanged.1 c.change_source-outcome.ensures.asks)
    c.with_line.ensures
