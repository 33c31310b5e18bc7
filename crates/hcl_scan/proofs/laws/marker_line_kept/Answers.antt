use Rattle.hcl_scan.proofs.HeredocMarkerLemmas.{marker_line_stays}
use Rattle.hcl_scan.proofs.laws.marker_line_kept.Goals as goal

pub returns : goal.returns
returns c = λ opens dot text rest after n is first ends. (marker_line_stays opens dot text rest after n is first ends).0
