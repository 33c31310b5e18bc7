use Rattle.std.proofs.Common.{◌∙◌, ap, sym}
use Rattle.std.specs.Prelude.{◌||◌}
use Rattle.rule_set.specs.RuleSets.{holds}
use Rattle.tf_facts.proofs.NamedRuleLemmas.{names_none, names_one, or_false}
use Rattle.tf_facts.proofs.silencing.with_named.Goals as goal

pub returns-in-Some : goal.returns-in-Some
returns-in-Some c = λ rule.
    c.with.ensures rule
    ∙ ap (λ b. holds c.args.set rule || b) (names_one c.args.part.now c.in-Some.rule (sym c.equals.ensures ∙ c.if-equals.false) c.in-Some.ensures rule)

pub returns-in-None : goal.returns-in-None
returns-in-None c = λ rule.
    sym (ap (λ b. holds c.args.set rule || b) (names_none c.args.part.now (sym c.equals.ensures ∙ c.if-equals.false) c.in-None.ensures rule) ∙ or_false (holds c.args.set rule))
