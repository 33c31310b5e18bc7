use Rattle.std.proofs.Common.{length, sym, ◌∙◌}
use Rattle.hcl_scan.proofs.StepLemmas.{reads_opener}
use Rattle.hcl_scan.proofs.HeredocStepLemmas.{deep_opener, is_full, has_room}
use Rattle.hcl_scan.proofs.scanner.Scanner.read_opener.Goals as goal

pub returns-then-is_full-clause-stopped : goal.returns-then-is_full-clause-stopped
returns-then-is_full-clause-stopped c = deep_opener c.args.self.now c.args.entry c.requires.next c.args.by (is_full (length c.args.self.now.stack) (sym c.is_full.ensures.full ∙ c.if-is_full.true)) c.requires.opens

pub returns-clause-read : goal.returns-clause-read
returns-clause-read c = rw (c.no-self.ensures) (reads_opener c.args.self.now c.args.entry c.requires.sound c.requires.next c.args.by c.open.new.self c.requires.opens (has_room (length c.args.self.now.stack) c.is_full.ensures.small (sym c.is_full.ensures.full ∙ c.if-is_full.false)) c.open.ensures)
