use Rattle.std.proofs.Common.{◌∙◌, ◌++◌, ◌∷◌, [], ℕ, List, ap, arith, filter, length, rules, subst, take, tests}
use Rattle.std.specs.Prelude.{◌==◌}
use Rattle.std.specs.List.{join_with_byte, slice_split}
use Rattle.std.proofs.lemmas.Iterator.Consumers.{YieldsList-at, YieldsList-end, YieldsList-turn}
use Rattle.std.proofs.lemmas.Iterator.Splits.{YieldsList-from_slice_split}
use Rattle.std.proofs.lemmas.List.{length_push, take_all}
use Rattle.file_tree.specs.Inner.Steps.{Joined}
use Rattle.file_tree.specs.Paths.{is_step, root}
use Rattle.file_tree.proofs.TidyLemmas.{joined_more, steps_more}
use Rattle.file_tree.proofs.path.tidy.Goals as goal

pub loop-part-preserved : goal.loop-part-preserved
loop-part-preserved c =
    let all : List (List ℕ) = slice_split (λ b. b == 47) c.args.path.now in
    let t = YieldsList-turn (YieldsList-at c.into_iter-part-iterator.ensures.into_iter_gives
    (YieldsList-from_slice_split _ (λ b. b == 47) c.args.path.now c.split-part-items.ensures.rest c.split-part-items.ensures.done c.split-part-items.ensures.closure (λ x b q k. search (rules, tests))))
    c.loop-part.yielded _ c.loop-part.yielded_by _ _ c.in-Some.part c.in-Some.is c.next.ensures.steps in
    subst (λ parts. Joined (root c.args.path.now) parts c.add_step.new.tidied.items c.in_ok-has_step.has_step)
    (steps_more all (length c.loop-part.yielded) (length (c.loop-part.yielded ++ c.in-Some.part ∷ [])) c.in-Some.part.now t.0 t.1 (length_push c.loop-part.yielded c.in-Some.part))
    (joined_more (root c.args.path.now) (filter is_step (take (length c.loop-part.yielded) all)) c.in-Some.part.now c.loop-part.tidied.items c.add_step.new.tidied.items c.loop-part.has_step c.in_ok-has_step.has_step
    c.loop-part.invariant c.in_ok-has_step.ensures)

pub returns : goal.returns
returns c =
    let t = YieldsList-end (YieldsList-at c.into_iter-part-iterator.ensures.into_iter_gives
    (YieldsList-from_slice_split _ (λ b. b == 47) c.args.path.now c.split-part-items.ensures.rest c.split-part-items.ensures.done c.split-part-items.ensures.closure (λ x b q k. search (rules, tests))))
    c.loop-part.yielded _ c.loop-part.yielded_by _ _ c.in-None.is c.next.ensures.steps in
    c.loop-part.invariant.0
    ∙ ap (λ l. root c.args.path.now ++ join_with_byte 47 (filter is_step l)) (take_all (length c.loop-part.yielded) (slice_split (λ b. b == 47) c.args.path.now) (omega (arith, t.1)))
