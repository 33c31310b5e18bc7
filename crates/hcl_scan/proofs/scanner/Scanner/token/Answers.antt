use Rattle.hcl_scan.proofs.StepLemmas.{next_is}
use Rattle.hcl_scan.proofs.scanner.Scanner.token.Goals as goal

pub read-requires-clause-next : goal.read-requires-clause-next
read-requires-clause-next c = next_is c.args.self.now c.args.start c.in-Some.found.len c.in-Some.found.kind c.inside_heredoc.result c.requires.sound c.requires.start c.in-Some.ensures.found c.in-Some.ensures.boundary c.inside_heredoc.ensures
