use Rattle.std.proofs.Common.{◌∙◌, ap, sym, ◌++◌, List, false, ◌≡◌}
use Rattle.std.specs.List.{list_any}
use Rattle.std.proofs.lemmas.List.{append-nil}
use Rattle.rule_set.specs.RuleSets.{holds}
use Rattle.tf_rules.specs.Inner.Entries.{declared_rules, issues_of}
use Rattle.tf_rules.specs.Issues.{Issue}
use Rattle.tf_rules.proofs.ExchangeLemmas.{nothing_declared}
use Rattle.tf_rules.proofs.facts.Facts.push_declared.Goals as goal

pub returns-then-not-asks_of_declarations : goal.returns-then-not-asks_of_declarations
returns-then-not-asks_of_declarations c =
    let s = c.args.settings.now in
    let kept = c.args.self.now in
    let put : List Issue = issues_of c.args.entries.now.items in
    let none_held : list_any (holds s.rules) declared_rules ≡ false = sym c.asks_of_declarations.ensures ∙ c.if-not-asks_of_declarations.true in
    sym (ap (λ (is : List Issue). put ++ is) (nothing_declared s kept.references kept.facts.declarations none_held) ∙ append-nil put)
