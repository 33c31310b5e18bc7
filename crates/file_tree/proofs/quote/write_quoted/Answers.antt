use Rattle.std.proofs.Common.{sym}
use Rattle.command_line.proofs.WriterLemmas.{all_taken}
use Rattle.file_tree.proofs.WriteLemmas.{cut_in, took_quoted}
use Rattle.file_tree.proofs.quote.write_quoted.Goals as goal

pub returns-in_err-write_all_shown-clause-took : goal.returns-in_err-write_all_shown-clause-took
returns-in_err-write_all_shown-clause-took g c =
    cut_in _ _ _ _ c.args.name.now (sym c.if-not-has_odd.ensures)
    (all_taken _ _ _ _ c.in_ok-write_bytes.ensures.failed c.in_ok-write_bytes.ensures.took) c.in_err-write_all_shown.ensures.failed c.write_all_shown.ensures.took

pub returns-clause-took : goal.returns-clause-took
returns-clause-took g c =
    took_quoted _ _ _ _ _ c.args.name.now (sym c.if-not-has_odd.ensures)
    (all_taken _ _ _ _ c.in_ok-write_bytes.ensures.failed c.in_ok-write_bytes.ensures.took)
    (all_taken _ _ _ _ c.in_ok-write_all_shown.ensures.failed c.in_ok-write_all_shown.ensures.took) c.write_bytes-3.ensures.took
