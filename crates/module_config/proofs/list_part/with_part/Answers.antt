use Rattle.std.proofs.Common.{lit<, subst}
use Rattle.std.specs.Prelude.{None, Option}
use Rattle.std.proofs.lemmas.Str.Pattern.{strip_prefix_char}
use Rattle.rule_set.specs.declared.rule_set.RuleSet.{RuleSet}
use Rattle.module_config.specs.Inner.Listed.{Listed}
use Rattle.module_config.proofs.ListLemmas.{more_with}
use Rattle.module_config.proofs.list_part.with_part.Goals as goal

pub returns-in-None : goal.returns-in-None
returns-in-None c = λ parts listed.
    more_with parts c.args.part.now c.in-Some.set c.with_name.result (strip_prefix_char 45 c.args.part.now None c.in-None.ensures.cases (lit< tt)) c.with_name.ensures
    (subst (λ (s : Option RuleSet). Listed parts s) c.in-Some.is listed)
