use Rattle.std.proofs.Common.{ap, ◌∙◌}
use Rattle.hcl_grammar.specs.Predictor.{refusal_of}
use Rattle.text_format.proofs.RescanLemmas.{scans_again}
use Rattle.text_format.proofs.ForgetPlaceLemmas.{print_again, seen_again}
use Rattle.text_format.proofs.PrintLoadLemmas.{loads_again}
use Rattle.text_format.proofs.laws.print_is_idempotent.Goals as goal

pub returns : goal.returns
returns c = λ text ts is scans accepted small. (loads_again text ts is scans small, scans_again text ts scans, ap refusal_of (seen_again ts) ∙ accepted, print_again ts)
