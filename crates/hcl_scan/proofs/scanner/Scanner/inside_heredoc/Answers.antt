use Rattle.std.proofs.Common.{sym}
use Rattle.hcl_scan.proofs.StackLemmas.{inside_is}
use Rattle.hcl_scan.proofs.scanner.Scanner.inside_heredoc.Goals as goal

pub returns : goal.returns
returns c = sym (inside_is c.args.self.now.text.now c.args.self.now.stack c.args.self.now.end c.requires.stack)
