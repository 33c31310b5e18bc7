use Rattle.std.proofs.Common.{refl}
use Rattle.hcl_scan.proofs.StepLemmas.{sound_new}
use Rattle.hcl_scan.proofs.scanner.Scanner.new.Goals as goal

pub returns-clause-sound : goal.returns-clause-sound
returns-clause-sound c = sound_new _ c.requires c.utf8.text refl refl c.new.ensures
