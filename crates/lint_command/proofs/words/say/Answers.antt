use Rattle.std.proofs.Common.{map}
use Rattle.lint_command.specs.declared.usage.Usage.TheVariants.{BadForm, BadJobs, BadNaming, BadPart, BadSeverity, Explain, Help, ListRules, NamesTwice, NoRuleLeft, UnknownExplained, UnknownRule, Version}
use Rattle.lint_command.proofs.UsageLemmas.{memory_shown, shown_as, shows_usage}
use Rattle.lint_command.proofs.words.say.Goals as goal

pub returns-in-Help : goal.returns-in-Help
returns-in-Help g c = shows_usage (map (λ word. word.now) c.args.words.now) c.args.usage Help c.tree_linter.result _ c.in-Help.is c.tree_linter.ensures c.deliver.ensures

pub returns-in-Version : goal.returns-in-Version
returns-in-Version g c = shows_usage (map (λ word. word.now) c.args.words.now) c.args.usage Version c.tree_linter-in-Version.result _ c.in-Version.is c.tree_linter-in-Version.ensures c.deliver-in-Version.ensures

pub returns-in-ListRules : goal.returns-in-ListRules
returns-in-ListRules g c = shown_as (map (λ word. word.now) c.args.words.now) c.args.usage ListRules _ c.in-ListRules.is (c.list_rules.ensures (map (λ word. word.now) c.args.words.now))

pub returns-in-Explain : goal.returns-in-Explain
returns-in-Explain g c =
    shown_as (map (λ word. word.now) c.args.words.now) c.args.usage (Explain c.in-Explain.rule) _ c.in-Explain.is (c.explain.ensures (map (λ word. word.now) c.args.words.now))

pub returns-in-UnknownRule : goal.returns-in-UnknownRule
returns-in-UnknownRule g c = shown_as (map (λ word. word.now) c.args.words.now) c.args.usage UnknownRule _ c.in-UnknownRule.is c.unknown_rule.ensures

pub returns-in-UnknownExplained : goal.returns-in-UnknownExplained
returns-in-UnknownExplained g c = shown_as (map (λ word. word.now) c.args.words.now) c.args.usage UnknownExplained _ c.in-UnknownExplained.is c.wrong_value.ensures

pub returns-in-NoRuleLeft : goal.returns-in-NoRuleLeft
returns-in-NoRuleLeft g c = shown_as (map (λ word. word.now) c.args.words.now) c.args.usage NoRuleLeft _ c.in-NoRuleLeft.is c.wrong_value-in-NoRuleLeft.ensures

pub returns-in-BadNaming : goal.returns-in-BadNaming
returns-in-BadNaming g c = shown_as (map (λ word. word.now) c.args.words.now) c.args.usage BadNaming _ c.in-BadNaming.is c.wrong_value-in-BadNaming.ensures

pub returns-in-BadSeverity : goal.returns-in-BadSeverity
returns-in-BadSeverity g c = shown_as (map (λ word. word.now) c.args.words.now) c.args.usage BadSeverity _ c.in-BadSeverity.is c.wrong_value-in-BadSeverity.ensures

pub returns-in-BadPart : goal.returns-in-BadPart
returns-in-BadPart g c = shown_as (map (λ word. word.now) c.args.words.now) c.args.usage BadPart _ c.in-BadPart.is c.wrong_value-in-BadPart.ensures

pub returns-in-BadForm : goal.returns-in-BadForm
returns-in-BadForm g c = shown_as (map (λ word. word.now) c.args.words.now) c.args.usage BadForm _ c.in-BadForm.is c.wrong_value-in-BadForm.ensures

pub returns-in-BadJobs : goal.returns-in-BadJobs
returns-in-BadJobs g c = shows_usage (map (λ word. word.now) c.args.words.now) c.args.usage BadJobs c.tree_linter-in-BadJobs.result _ c.in-BadJobs.is c.tree_linter-in-BadJobs.ensures c.tell.ensures

pub returns-in-NamesTwice : goal.returns-in-NamesTwice
returns-in-NamesTwice g c = shows_usage (map (λ word. word.now) c.args.words.now) c.args.usage NamesTwice c.tree_linter-in-NamesTwice.result _ c.in-NamesTwice.is c.tree_linter-in-NamesTwice.ensures c.tell-in-NamesTwice.ensures

pub returns-in-OutOfMemory : goal.returns-in-OutOfMemory
returns-in-OutOfMemory g c = memory_shown (map (λ word. word.now) c.args.words.now) c.args.usage c.tree_linter-in-OutOfMemory.result _ c.tree_linter-in-OutOfMemory.ensures c.tell_out_of_memory.ensures
