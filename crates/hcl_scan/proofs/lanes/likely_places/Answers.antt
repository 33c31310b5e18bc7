use Rattle.hcl_scan.proofs.LaneLemmas.{marks_likely}
use Rattle.hcl_scan.proofs.lanes.likely_places.Goals as goal

pub returns : goal.returns
returns c = marks_likely c.args.text.now c.args.marker.now c.args.at c.requires.some c.requires.room
