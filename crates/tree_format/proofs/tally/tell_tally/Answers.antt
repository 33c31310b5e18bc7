use Rattle.std.proofs.Common.{◌∙◌, Bool, List, ℕ, ap, codes, subst, sym}
use Rattle.std.specs.Prelude.{if◌then◌else◌}
use Rattle.command_line.specs.Rows.{TookBy}
use Rattle.tree_format.specs.Tally.{tally_line}
use Rattle.tree_format.proofs.tally.tell_tally.Goals as goal

pub returns-then-is_empty-clause-took : goal.returns-then-is_empty-clause-took
returns-then-is_empty-clause-took g c =
    subst (λ (text : List ℕ). TookBy (g.S.ByteSink.failed c.write_parts.new.sink) (g.S.ByteSink.taken c.args.sink.now) (g.S.ByteSink.taken c.write_parts.new.sink) text)
    (sym (ap (λ (b : Bool). if b then codes "no files found\n" else tally_line c.args.mode c.args.tally.now) (sym c.is_empty.ensures ∙ c.if-is_empty.true))) c.write_parts.ensures.took
