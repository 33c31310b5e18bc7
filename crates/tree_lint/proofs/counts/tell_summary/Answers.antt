use Rattle.std.proofs.Common.{List, ℕ, ap, codes, subst, sym}
use Rattle.std.specs.Prelude.{◌==◌, if◌then◌else◌}
use Rattle.command_line.specs.Rows.{TookBy}
use Rattle.tree_lint.specs.Numbers.{some_line}
use Rattle.tree_lint.proofs.counts.tell_summary.Goals as goal

pub returns-then-counts-eq0-clause-took : goal.returns-then-counts-eq0-clause-took
returns-then-counts-eq0-clause-took g c =
    subst (λ (text : List ℕ). TookBy (g.S.ByteSink.failed c.write_parts.new.sink) (g.S.ByteSink.taken c.args.sink.now) (g.S.ByteSink.taken c.write_parts.new.sink) text)
    (sym (ap (λ (n : ℕ). if n == 0 then codes "no modules found\n" else some_line c.args.counts.now) c.if-counts-eq0.true)) c.write_parts.ensures.took
