use Rattle.hcl_scan.proofs.InHeredocLemmas.{read_inside}
use Rattle.hcl_scan.proofs.laws.heredoc_kept.Goals as goal

pub returns : goal.returns
returns c = λ other s twin t next same inside some still read. read_inside other s twin t next same some inside still read
