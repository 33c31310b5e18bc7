use Rattle.std.proofs.Common.{ℕ, IfNone, sym, subst}
use Rattle.hcl_tokens.specs.Scans.{IsMarkerLine}
use Rattle.hcl_scan.proofs.CandidateLemmas.{first_line, none_before, none_at_all}
use Rattle.hcl_scan.proofs.heredoc.marker_line.Goals as goal

pub returns-in-Some-line_of_marker-clause-found : goal.returns-in-Some-line_of_marker-clause-found
returns-in-Some-line_of_marker-clause-found c =
    first_line c.args.marker.now c.args.text.now c.requires.some c.requires.begins c.loop-place.at c.in-Some.place c.in-Some.ensures.found
    c.loop-place.invariant.none c.in-Some-line_of_marker.start c.in-Some-line_of_marker.ensures.found.0 c.in-Some-line_of_marker.ensures.found.1

pub returns-in_err-at-clause-none : goal.returns-in_err-at-clause-none
returns-in_err-at-clause-none c =
    subst (λ r. IfNone r ((n : ℕ) → ¬ IsMarkerLine c.args.marker.now c.args.text.now n)) (sym c.from_residual.ensures)
    (none_at_all c.args.marker.now c.args.text.now c.requires.some c.requires.begins c.loop-place.at c.in-Some.place c.in-Some.ensures.found
    c.loop-place.invariant.none c.in_default-line_of_marker.ensures.none c.in_err-at.ensures.none)

pub loop-place-preserved : goal.loop-place-preserved
loop-place-preserved c = record {
  within = c.in_ok-at.ensures.found.within;
  starts_line = λ _. c.in_ok-at.ensures.found.starts_line;
  none = none_before c.args.marker.now c.args.text.now c.requires.some c.requires.begins c.loop-place.at c.in-Some.place c.in-Some.ensures.found
      c.loop-place.invariant.none c.in_default-line_of_marker.ensures.none c.in_ok-at.at c.in_ok-at.ensures.found;
}
