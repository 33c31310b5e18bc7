use Rattle.std.proofs.Common.{◌∙◌, ap, sym, length, rules, tests, take, arith}
use Rattle.std.specs.Prelude.{◌==◌, ◌||◌}
use Rattle.std.specs.List.{list_any, slice_split}
use Rattle.std.proofs.lemmas.List.{length_push, take_all}
use Rattle.std.proofs.lemmas.Iterator.Consumers.{YieldsList-at, YieldsList-end, YieldsList-turn}
use Rattle.std.proofs.lemmas.Iterator.Splits.{YieldsList-from_slice_split}
use Rattle.rule_set.specs.RuleSets.{holds}
use Rattle.tf_facts.specs.Silencing.{names, trim_blanks}
use Rattle.tf_facts.proofs.CutLemmas.{any_more}
use Rattle.tf_facts.proofs.silencing.all_named.Goals as goal

pub loop-part-preserved : goal.loop-part-preserved
loop-part-preserved c =
    let t = YieldsList-turn (YieldsList-at c.into_iter-part-iterator.ensures.into_iter_gives
    (YieldsList-from_slice_split _ (λ b. b == 44) c.args.list.now c.split-part-items.ensures.rest c.split-part-items.ensures.done c.split-part-items.ensures.closure (λ x b q k. search (rules, tests))))
    c.loop-part.yielded _ c.loop-part.yielded_by _ _ c.in-Some.part c.in-Some.is c.next.ensures.steps in
    λ rule.
    c.with_named-set.ensures rule
    ∙ ap (λ text. holds c.loop-part.set rule || names rule text) c.trim_blanks.ensures
    ∙ ap (λ b. b || names rule (trim_blanks c.in-Some.part.now)) (c.loop-part.invariant rule)
    ∙ sym (any_more (λ part. names rule (trim_blanks part)) (slice_split (λ b. b == 44) c.args.list.now) (length c.loop-part.yielded) c.in-Some.part.now t.0 t.1)
    ∙ ap (λ n. list_any (λ part. names rule (trim_blanks part)) (take n (slice_split (λ b. b == 44) c.args.list.now))) (sym (length_push c.loop-part.yielded c.in-Some.part))

pub returns : goal.returns
returns c =
    let t = YieldsList-end (YieldsList-at c.into_iter-part-iterator.ensures.into_iter_gives
    (YieldsList-from_slice_split _ (λ b. b == 44) c.args.list.now c.split-part-items.ensures.rest c.split-part-items.ensures.done c.split-part-items.ensures.closure (λ x b q k. search (rules, tests))))
    c.loop-part.yielded _ c.loop-part.yielded_by _ _ c.in-None.is c.next.ensures.steps in
    λ rule.
    c.loop-part.invariant rule
    ∙ ap (list_any (λ part. names rule (trim_blanks part))) (take_all (length c.loop-part.yielded) (slice_split (λ b. b == 44) c.args.list.now) (omega (arith, t.1)))
