-- The rules that are silenced on each line, as the code stores them.
use Rattle.std.specs.Prelude.{◌≡◌, ◌==◌, ◌&&◌, ℕ, Bool, false, List, Option, Some, None, nat_eq}
use Rattle.std.specs.List.{list_any}
use Rattle.indexmap.specs.IndexMap.{IndexMap, get}
use Rattle.tf_facts.specs.Comments.{Comment}
use Rattle.tf_rules.specs.Issues.{Place}
use Rattle.rule_set.specs.Rules.{is_rule}
use Rattle.rule_set.specs.RuleSets.{holds}
use Rattle.rule_set.specs.declared.rule.Rule.{Rule}
use Rattle.rule_set.specs.declared.rule_set.RuleSet.{RuleSet}

abbrev pub is_in_set : Option RuleSet → Rule → Bool
is_in_set None rule = false
is_in_set (Some set) rule = holds set rule

abbrev pub same_line : ℕ × ℕ → ℕ × ℕ → Bool
same_line a b = nat_eq a.0 b.0 && nat_eq a.1 b.1

-- whether a rule is silenced on a line, by the number of the file and of the line
abbrev pub silenced_at : {S : Type 0} → IndexMap (ℕ × ℕ) RuleSet S → ℕ → ℕ → Rule → Bool
silenced_at lines file line rule = is_in_set (get same_line lines (file, line)) rule

-- the comment is on the line and silences the rule
abbrev pub is_on : ℕ → ℕ → Rule → Comment Place → Bool
is_on file line rule c = (c.at.file == file) && (c.at.at.line == line) && list_any (is_rule rule) c.silences

-- the stored lines are those of these comments
abbrev pub AreSilenced : {S : Type 0} → IndexMap (ℕ × ℕ) RuleSet S → List (Comment Place) → Type 0
AreSilenced lines comments = (file line : ℕ) (rule : Rule) → silenced_at lines file line rule ≡ list_any (is_on file line rule) comments
