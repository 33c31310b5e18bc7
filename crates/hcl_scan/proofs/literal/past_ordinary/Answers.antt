use Rattle.std.proofs.Common.{◌+◌, ap, ◌∙◌}
use Rattle.std.specs.List.{prefix_len}
use Rattle.hcl_scan.specs.Inner.Found.{is_ordinary}
use Rattle.hcl_scan.proofs.literal.past_ordinary.Goals as goal

pub returns-clause-place : goal.returns-clause-place
returns-clause-place c = ap (λ n. c.args.from + n) (c.ordinary_len.ensures.count ∙ ap (prefix_len is_ordinary) c.split_at.ensures.back)
