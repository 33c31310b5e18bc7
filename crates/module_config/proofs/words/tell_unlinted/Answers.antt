use Rattle.std.proofs.Common.{List, ℕ, subst}
use Rattle.command_line.specs.Rows.{TookBy}
use Rattle.module_config.proofs.WordLemmas.{one_unlinted}
use Rattle.module_config.proofs.words.tell_unlinted.Goals as goal

pub returns-then-count-eq1-clause-took : goal.returns-then-count-eq1-clause-took
returns-then-count-eq1-clause-took g c =
    subst (λ (text : List ℕ). TookBy (g.S.ByteSink.failed c.write_parts.new.sink) (g.S.ByteSink.taken c.args.sink.now) (g.S.ByteSink.taken c.write_parts.new.sink) text)
    (one_unlinted c.args.count c.if-count-eq1.true) c.write_parts.ensures.took
