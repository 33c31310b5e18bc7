use Rattle.hcl_source.proofs.LoadLemmas.{text_or_fault}
use Rattle.hcl_source.proofs.laws.fault_or_text.Goals as goal

pub returns : goal.returns
returns c = λ bytes fault refused text. text_or_fault bytes fault text refused
