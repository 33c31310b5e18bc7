use Rattle.std.proofs.Common.{◌≡◌, ◌∙◌, ap, sym, subst}
use Rattle.std.specs.Prelude.{Option, MatchOption, find}
use Rattle.std.specs.Str.{bytes_eq}
use Rattle.rule_set.specs.Rules.{all_rules, rule_name}
use Rattle.rule_set.specs.declared.rule.Rule.{Rule}
use Rattle.rule_set.proofs.RuleNameLemmas.{by_name}
use Rattle.rule_set.proofs.rule.Rule.from_name.Goals as goal

pub returns : goal.returns
returns c =
    subst (λ (o : Option Rule). MatchOption o ((rule : Rule) → rule_name rule ≡ c.args.name.now → ⊥) (λ rule. rule_name rule ≡ c.args.name.now))
    (sym (c.rule_named.ensures ∙ ap (λ text. find (λ rule. bytes_eq (rule_name rule) text) all_rules) c.as_bytes.ensures.value)) (by_name c.args.name.now)
