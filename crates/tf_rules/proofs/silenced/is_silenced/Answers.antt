use Rattle.std.proofs.Common.{◌≡◌, ◌∙◌, ap, sym, arith, ◌+◌}
use Rattle.std.specs.Prelude.{◌||◌}
use Rattle.std.specs.List.{list_any}
use Rattle.std.proofs.lemmas.Bool.{or_left}
use Rattle.tf_rules.specs.Inner.Entries.{issue_of}
use Rattle.tf_rules.specs.Inner.SilencedLines.{is_on}
use Rattle.tf_rules.proofs.SilencedLemmas.{is_under, silenced_both, under_above}
use Rattle.tf_rules.proofs.silenced.is_silenced.Goals as goal

pub returns-then-holds : goal.returns-then-holds
returns-then-holds c = λ comments are.
    let e = c.args.entry.now in
    sym (silenced_both comments (issue_of e)
    ∙ or_left (list_any (is_on e.at.file e.at.at.line e.rule) comments) (list_any (is_under e.at.file e.at.at.line e.rule) comments)
    (sym (are e.at.file e.at.at.line e.rule) ∙ sym (c.rules_on.ensures e.rule) ∙ sym c.holds.ensures ∙ c.if-holds.true))

pub returns : goal.returns
returns c = λ comments are.
    let e = c.args.entry.now in
    let one : e.at.at.line ≡ c.in-Some.above + 1 = omega (arith, c.in-Some.ensures) in
    c.holds-2.ensures
    ∙ c.rules_on-2.ensures e.rule
    ∙ are e.at.file c.in-Some.above e.rule
    ∙ sym (under_above e.at.file e.at.at.line c.in-Some.above e.rule comments one)
    ∙ ap (λ b. b || list_any (is_under e.at.file e.at.at.line e.rule) comments) (sym (sym (are e.at.file e.at.at.line e.rule) ∙ sym (c.rules_on.ensures e.rule) ∙ sym c.holds.ensures ∙ c.if-holds.false))
    ∙ sym (silenced_both comments (issue_of e))
