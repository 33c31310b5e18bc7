use Rattle.text_format.proofs.RescanLemmas.{scans_again}
use Rattle.text_format.proofs.laws.rescan.Goals as goal

pub returns : goal.returns
returns c = scans_again
