use Rattle.std.proofs.Common.{◌∙◌, ap, sym, ℕ, List, Bool}
use Rattle.std.specs.List.{list_any}
use Rattle.tf_facts.specs.Silencing.{names, trim_blanks}
use Rattle.rule_set.specs.declared.rule.Rule.{Rule}
use Rattle.tf_facts.proofs.silencing.silenced_rules.Goals as goal

abbrev any_names : Rule → List (List ℕ) → Bool
any_names rule parts = list_any (λ part. names rule (trim_blanks part)) parts

pub returns-in-Some : goal.returns-in-Some
returns-in-Some c = λ rule. c.all_named.ensures rule ∙ ap (any_names rule) (sym c.in-Some.ensures)

pub returns-in-None : goal.returns-in-None
returns-in-None c = λ rule. c.none.ensures rule ∙ ap (any_names rule) (sym c.in-None.ensures)
