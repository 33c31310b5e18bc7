use Rattle.std.proofs.Common.{◌∙◌, ap}
use Rattle.std.specs.Prelude.{◌||◌, ◌&&◌, ◌==◌}
use Rattle.rule_set.specs.RuleSets.{holds}
use Rattle.tf_rules.proofs.SilencedLemmas.{on_more}
use Rattle.tf_rules.proofs.silenced.silence_by.Goals as goal

pub returns : goal.returns
returns c = λ comments so f l rule.
    c.in_ok-silence.ensures f l rule
    ∙ ap (λ b. b || ((c.args.comment.at.file == f) && (c.args.comment.at.at.line == l) && holds c.args.comment.silences rule)) (so f l rule)
    ∙ on_more comments c.args.comment f l rule
