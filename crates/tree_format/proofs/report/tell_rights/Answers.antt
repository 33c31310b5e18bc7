use Rattle.std.proofs.Common.{List, ℕ, subst, sym}
use Rattle.command_line.specs.Rows.{TookBy}
use Rattle.file_tree.specs.declared.tree.Replaced.{Replaced}
use Rattle.tree_format.specs.Reports.{rights_words}
use Rattle.tree_format.proofs.report.tell_rights.Goals as goal

pub returns-in-Narrowed-clause-took : goal.returns-in-Narrowed-clause-took
returns-in-Narrowed-clause-took g c =
    subst (λ (how : Replaced). TookBy (g.S.ByteSink.failed c.tell_about.new.sink) (g.S.ByteSink.taken c.args.sink.now) (g.S.ByteSink.taken c.tell_about.new.sink) (rights_words how c.args.name.now))
    (sym c.in-Narrowed.is) c.tell_about.ensures.took
