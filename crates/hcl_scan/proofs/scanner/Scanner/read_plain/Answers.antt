use Rattle.hcl_scan.proofs.StackLemmas.{stays_so, plain_opens}
use Rattle.hcl_scan.proofs.StepLemmas.{reads_plain}
use Rattle.hcl_scan.proofs.scanner.Scanner.read_plain.Goals as goal

pub returns : goal.returns
returns c =
    let plain = plain_opens c.args.entry.kind c.requires.plain in
    reads_plain c.args.self.now c.args.entry c.requires.sound c.requires.next c.args.self.now.stack c.after-self.result c.after-self.ensures plain.0 plain.1 (stays_so c.args.entry.kind c.args.self.now.stack c.requires.plain)
