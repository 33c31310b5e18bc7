use Rattle.std.proofs.Common.{◌∙◌, sym}
use Rattle.tfrules_command.proofs.AskedRuleLemmas.{all_asked, default_asked, list_asked}
use Rattle.tfrules_command.proofs.options.rules_asked.Goals as goal

pub returns-then-eq : goal.returns-then-eq
returns-then-eq c = default_asked c.args.text.now c.recommended.result (sym c.eq.ensures ∙ c.if-eq.true) c.recommended.ensures

pub returns-then-eq-2 : goal.returns-then-eq-2
returns-then-eq-2 c = all_asked c.args.text.now c.all.result (sym c.eq.ensures ∙ c.if-eq.false) (sym c.eq-2.ensures ∙ c.if-eq-2.true) c.all.ensures

pub returns : goal.returns
returns c = list_asked c.args.text.now c.rules_named.result (sym c.eq.ensures ∙ c.if-eq.false) (sym c.eq-2.ensures ∙ c.if-eq-2.false) c.rules_named.ensures
