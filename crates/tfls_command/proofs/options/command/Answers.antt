use Rattle.std.proofs.Common.{ap₂, ◌∙◌}
use Rattle.std.proofs.lemmas.Result.{IfOk-weaker}
use Rattle.clap.specs.Words.{with_rule}
use Rattle.tfls_command.proofs.options.command.Goals as goal

pub returns : goal.returns
returns c = IfOk-weaker c.arg.result _ _ (λ r h. h.shape c.flag_named.ensures.local ∙ ap₂ with_rule c.new.ensures.app c.flag_named.ensures.rule) c.arg.ensures
