use Rattle.std.proofs.Common.{◌≡◌, ◌∙◌, ◌+◌, ◌++◌, ◌∷◌, [], ap, sym, subst, length, take, arith, ℕ, List, lit<}
use Rattle.std.specs.Prelude.{◌==◌}
use Rattle.std.specs.List.{slice_split}
use Rattle.std.proofs.lemmas.List.{length_push, take_all, take_more}
use Rattle.std.proofs.lemmas.Iterator.Consumers.{YieldsList-at, YieldsList-end, YieldsList-turn}
use Rattle.std.proofs.lemmas.Iterator.Splits.{YieldsList-from_str_split}
use Rattle.module_config.specs.Inner.Listed.{Listed}
use Rattle.module_config.proofs.list.after_parts.Goals as goal

pub loop-part-preserved : goal.loop-part-preserved
loop-part-preserved c =
    let all : List (List ℕ) = slice_split (λ b. b == 44) c.args.list.now in
    let t = YieldsList-turn (YieldsList-at c.into_iter-part-iterator.ensures.into_iter_gives
    (YieldsList-from_str_split 44 c.args.list.now (lit< tt) c.split-part-items.ensures.text c.split-part-items.ensures.has_more c.split-part-items.ensures.pattern))
    c.loop-part.yielded _ c.loop-part.yielded_by _ _ c.in-Some.part c.in-Some.is c.next.ensures.steps in
    let front : take (length c.loop-part.yielded) all ++ c.in-Some.part.now ∷ [] ≡ take (length c.loop-part.yielded + 1) all =
    ap (λ x. take (length c.loop-part.yielded) all ++ x ∷ []) t.1 ∙ sym (take_more all (length c.loop-part.yielded) c.in-Some.part.now t.0) in
    subst (λ parts. Listed parts c.with_part-set.result) (front ∙ ap (λ n. take n all) (sym (length_push c.loop-part.yielded c.in-Some.part)))
    (c.with_part-set.ensures (take (length c.loop-part.yielded) all) c.loop-part.invariant)

pub returns : goal.returns
returns c =
    let t = YieldsList-end (YieldsList-at c.into_iter-part-iterator.ensures.into_iter_gives
    (YieldsList-from_str_split 44 c.args.list.now (lit< tt) c.split-part-items.ensures.text c.split-part-items.ensures.has_more c.split-part-items.ensures.pattern))
    c.loop-part.yielded _ c.loop-part.yielded_by _ _ c.in-None.is c.next.ensures.steps in
    subst (λ parts. Listed parts c.loop-part.set) (take_all (length c.loop-part.yielded) (slice_split (λ b. b == 44) c.args.list.now) (omega (arith, t.1))) c.loop-part.invariant
