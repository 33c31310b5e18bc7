use Rattle.std.proofs.Common.{ap, ◌∙◌}
use Rattle.hcl_tokens.specs.Spelling.{starts}
use Rattle.hcl_scan.proofs.CandidateLemmas.{same_front}
use Rattle.hcl_scan.proofs.heredoc.stands_at.Goals as goal

pub returns : goal.returns
returns c = c.starts_with.ensures.value ∙ same_front c.split_at.result.1.now c.args.marker.now ∙ ap (λ l. starts l c.args.marker.now) c.split_at.ensures.back
