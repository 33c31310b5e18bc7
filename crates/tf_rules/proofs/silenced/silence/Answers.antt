use Rattle.std.proofs.Common.{◌∙◌, ap, ap₂}
use Rattle.std.specs.Prelude.{◌||◌, ◌==◌}
use Rattle.std.proofs.lemmas.Bool.{and_parts, eqb-true}
use Rattle.indexmap.specs.IndexMap.{get}
use Rattle.rule_set.specs.RuleSets.{holds}
use Rattle.tf_rules.specs.Inner.SilencedLines.{same_line, silenced_at}
use Rattle.tf_rules.proofs.SilencedLemmas.{silence_step}
use Rattle.tf_rules.proofs.silenced.silence.Goals as goal

pub returns : goal.returns
returns c = λ f l rule.
    silence_step (get same_line c.args.lines.now (f, l)) (get same_line c.insert.new.self (f, l)) c.rules_of_both-both.result c.args.rules (same_line (c.args.file, c.args.line) (f, l)) rule (c.in_ok-insert.ensures.updates.0 (f, l))
    (λ here.
    let parts = and_parts (c.args.file == f) (c.args.line == l) here in
    c.rules_of_both-both.ensures rule
    ∙ ap (λ b. b || holds c.args.rules rule) (c.rules_on.ensures rule ∙ ap₂ (λ x y. silenced_at c.args.lines.now x y rule) (eqb-true c.args.file f parts.0) (eqb-true c.args.line l parts.1)))
