use Rattle.hcl_layout.proofs.SurveyLemmas.{step_at, token_at}
use Rattle.hcl_layout.proofs.line.read_first.Goals as goal

pub depth_after-requires-clause-stays : goal.depth_after-requires-clause-stays
depth_after-requires-clause-stays c =
    let ts = c.args.tokens.now.tokens in
    let found = token_at ts c.args.first c.requires.within in
    (step_at ts c.args.first c.args.before c.step_of-step.result found.0 c.kind.result found.1 (c.kind.ensures found.0 found.1) c.step_of-step.ensures c.if-step-ne-SPECIAL.true c.requires.balanced).stays
