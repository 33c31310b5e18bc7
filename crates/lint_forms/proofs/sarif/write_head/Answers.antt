use Rattle.lint_forms.proofs.AddsLemmas.{added_then, adds_as, adds_then}
use Rattle.lint_forms.proofs.SarifLemmas.{head_tokens}
use Rattle.lint_forms.proofs.sarif.write_head.Goals as goal

pub returns : goal.returns
returns c =
    let w0 = c.args.writer.now in
    let w1 = c.write_start.new.writer in
    let w2 = c.write_rules.new.writer in
    let a2 = added_then w0 w1 w2 _ _ c.in_ok-write_start.ensures c.in_ok-write_rules.ensures in
    let w3 = c.write_briefly.new.writer in
    let a3 = added_then w0 w2 w3 _ _ a2 c.in_ok-write_briefly.ensures in
    let w4 = c.write_briefly-2.new.writer in
    let a4 = added_then w0 w3 w4 _ _ a3 c.in_ok-write_briefly-2.ensures in
    let w5 = c.write_results_head.new.writer in
    adds_as c.write_results_head.result w0 w5 _ _ (head_tokens c.args.version.now) (adds_then c.write_results_head.result w0 w4 w5 _ _ a4 c.write_results_head.ensures)
