use Rattle.std.proofs.Common.{◌∙◌, ap₂, sym}
use Rattle.std.proofs.lemmas.List.Sums.{fold_more}
use Rattle.clap.specs.Words.{new_app, with_rule}
use Rattle.tree_words.specs.Line.{with_argument}
use Rattle.tree_words.proofs.argument.command_of.Goals as goal

pub loop-argument-preserved : goal.loop-argument-preserved
loop-argument-preserved c =
    c.in_ok-command.ensures.shape c.arg_for.ensures.local
    ∙ ap₂ with_rule c.loop-argument.invariant c.arg_for.ensures.rule
    ∙ sym (fold_more with_argument (new_app c.args.name.now) c.args.arguments.now c.loop-argument.argument-index _ c.loop-argument-test.true)
