use Rattle.std.proofs.Common.{◌∙◌, ap₂}
use Rattle.std.proofs.lemmas.Result.{IfOk-weaker}
use Rattle.clap.specs.Words.{with_rule}
use Rattle.tfrules_command.proofs.options.command.Goals as goal

pub returns : goal.returns
returns c =
    let a = c.in_ok-arg.ensures.shape c.option_named.ensures.local ∙ ap₂ with_rule c.new.ensures.app c.option_named.ensures.rule in
    let b = c.in_ok-arg-2.ensures.shape c.option_named-2.ensures.local ∙ ap₂ with_rule a c.option_named-2.ensures.rule in
    let d = c.in_ok-arg-3.ensures.shape c.option_named-3.ensures.local ∙ ap₂ with_rule b c.option_named-3.ensures.rule in
    let e = c.in_ok-arg-4.ensures.shape c.flag_named.ensures.local ∙ ap₂ with_rule d c.flag_named.ensures.rule in
    IfOk-weaker c.arg-5.result _ _ (λ r h. h.shape c.file.ensures.local ∙ ap₂ with_rule e c.file.ensures.rule) c.arg-5.ensures
