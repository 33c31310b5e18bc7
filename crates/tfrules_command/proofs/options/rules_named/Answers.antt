use Rattle.std.proofs.Common.{◌≡◌, ◌∙◌, ◌+◌, ◌++◌, ◌∷◌, [], ap, sym, subst, length, take, arith, ℕ, List, lit<}
use Rattle.std.specs.Prelude.{◌==◌}
use Rattle.std.specs.List.{slice_split}
use Rattle.std.proofs.lemmas.List.{length_push, take_all, take_more}
use Rattle.std.proofs.lemmas.Iterator.Consumers.{YieldsList-at, YieldsList-end, YieldsList-turn}
use Rattle.std.proofs.lemmas.Iterator.Splits.{YieldsList-from_str_split}
use Rattle.tfrules_command.specs.Inner.Named.{Named}
use Rattle.tfrules_command.proofs.options.rules_named.Goals as goal

pub loop-name-preserved : goal.loop-name-preserved
loop-name-preserved c =
    let all : List (List ℕ) = slice_split (λ b. b == 44) c.args.list.now in
    let t = YieldsList-turn (YieldsList-at c.into_iter-name-iterator.ensures.into_iter_gives
    (YieldsList-from_str_split 44 c.args.list.now (lit< tt) c.split-name-items.ensures.text c.split-name-items.ensures.has_more c.split-name-items.ensures.pattern))
    c.loop-name.yielded _ c.loop-name.yielded_by _ _ c.in-Some.name c.in-Some.is c.next.ensures.steps in
    let front : take (length c.loop-name.yielded) all ++ c.in-Some.name.now ∷ [] ≡ take (length c.loop-name.yielded + 1) all =
    ap (λ x. take (length c.loop-name.yielded) all ++ x ∷ []) t.1 ∙ sym (take_more all (length c.loop-name.yielded) c.in-Some.name.now t.0) in
    subst (λ names. Named names c.with_named-set.result) (front ∙ ap (λ n. take n all) (sym (length_push c.loop-name.yielded c.in-Some.name)))
    (c.with_named-set.ensures (take (length c.loop-name.yielded) all) c.loop-name.invariant)

pub returns : goal.returns
returns c =
    let t = YieldsList-end (YieldsList-at c.into_iter-name-iterator.ensures.into_iter_gives
    (YieldsList-from_str_split 44 c.args.list.now (lit< tt) c.split-name-items.ensures.text c.split-name-items.ensures.has_more c.split-name-items.ensures.pattern))
    c.loop-name.yielded _ c.loop-name.yielded_by _ _ c.in-None.is c.next.ensures.steps in
    subst (λ names. Named names c.loop-name.set) (take_all (length c.loop-name.yielded) (slice_split (λ b. b == 44) c.args.list.now) (omega (arith, t.1))) c.loop-name.invariant
