use Rattle.tree_format.proofs.KeptFormatLemmas.{scan_looks, text_asks, text_looks}
use Rattle.tree_format.proofs.visit.change_source.Goals as goal

pub returns-in-Ok-accepts-clause-looks : goal.returns-in-Ok-accepts-clause-looks
returns-in-Ok-accepts-clause-looks g c =
    text_looks _ _ _ c.args.name.now _ c.args.source.now c.in-Ok.tokens c.in-Ok-accepts.accepted c.change.result c.in-Ok.ensures.source c.requires.text c.in-Ok.ensures.tokens c.in-Ok-accepts.ensures c.change.ensures.makes

pub returns-in-Ok-accepts-clause-asks : goal.returns-in-Ok-accepts-clause-asks
returns-in-Ok-accepts-clause-asks g c =
    text_asks _ c.args.name.now _ _ _ c.args.source.now c.in-Ok.tokens c.in-Ok-accepts.accepted c.change.result c.in-Ok.ensures.source c.requires.text c.in-Ok.ensures.tokens c.requires.old c.in-Ok-accepts.ensures c.change.ensures.asks

pub returns-clause-looks : goal.returns-clause-looks
returns-clause-looks g c =
    scan_looks c.args.mode _ c.args.name.now _ c.args.source.now c.in-Err.error c.outcome_of_scan.result c.outcome_of_scan.ensures c.requires.text c.in-Err.ensures.err
