use Rattle.std.proofs.Common.{◌∙◌}
use Rattle.hcl_scan.proofs.StackLemmas.{changes_no_dot}
use Rattle.hcl_scan.proofs.StepLemmas.{reads_plain}
use Rattle.hcl_scan.proofs.scanner.Scanner.read_closer.Goals as goal

pub returns : goal.returns
returns c = reads_plain c.args.self.now c.args.entry c.requires.sound c.requires.next c.close.new.self c.no-self.result (c.no-self.ensures ∙ changes_no_dot c.args.entry.kind c.requires.closes) c.requires.plain c.requires.no_heredoc c.close.ensures
