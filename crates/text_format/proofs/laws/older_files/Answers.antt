use Rattle.hcl_scan.proofs.SideBySideLemmas.{besides}
use Rattle.text_format.proofs.OlderScanLemmas.{scanned_older, scanned_too}
use Rattle.text_format.proofs.OlderRunLemmas.{accepted_disjoint, accepted_too}
use Rattle.text_format.proofs.OlderPrintLemmas.{print_same}
use Rattle.text_format.proofs.laws.older_files.Goals as goal

pub returns : goal.returns
returns c = λ text ts was accepted.
    let older = scanned_older text ts was in
    let is = accepted_too ts older accepted in
    let disjoint = accepted_disjoint ts is in
    let scans = scanned_too text ts was disjoint in
    (scans, is, print_same ts (besides text ts scans) older disjoint)
