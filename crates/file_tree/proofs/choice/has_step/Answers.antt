use Rattle.std.proofs.Common.{◌∙◌, ◌++◌, ◌∷◌, [], ℕ, List, ap, arith, length, rules, tests}
use Rattle.std.specs.Prelude.{◌==◌, ◌&&◌}
use Rattle.std.specs.List.{list_any, slice_split}
use Rattle.std.specs.Str.{bytes_eq}
use Rattle.std.proofs.lemmas.Iterator.Consumers.{YieldsList-at, YieldsList-end, YieldsList-turn}
use Rattle.std.proofs.lemmas.Iterator.Splits.{YieldsList-from_slice_split}
use Rattle.std.proofs.lemmas.List.{length_push, take_all}
use Rattle.file_tree.specs.Paths.{is_step}
use Rattle.file_tree.proofs.ChoiceLemmas.{any_more}
use Rattle.file_tree.proofs.choice.has_step.Goals as goal

pub loop-part-preserved : goal.loop-part-preserved
loop-part-preserved c =
    let all : List (List ℕ) = slice_split (λ b. b == 47) c.args.path.now in
    let t = YieldsList-turn (YieldsList-at c.into_iter-part-iterator.ensures.into_iter_gives
    (YieldsList-from_slice_split _ (λ b. b == 47) c.args.path.now c.split-part-items.ensures.rest c.split-part-items.ensures.done c.split-part-items.ensures.closure (λ x b q k. search (rules, tests))))
    c.loop-part.yielded _ c.loop-part.yielded_by _ _ c.in-Some.part c.in-Some.is c.next.ensures.steps in
    any_more (λ part. is_step part && bytes_eq part c.args.name.now) all (length c.loop-part.yielded) (length (c.loop-part.yielded ++ c.in-Some.part ∷ [])) c.in-Some.part.now c.loop-part.has c.is_named.result c.either-has.result
    t.0 t.1 (length_push c.loop-part.yielded c.in-Some.part) c.loop-part.invariant c.is_named.ensures c.either-has.ensures

pub returns : goal.returns
returns c =
    let t = YieldsList-end (YieldsList-at c.into_iter-part-iterator.ensures.into_iter_gives
    (YieldsList-from_slice_split _ (λ b. b == 47) c.args.path.now c.split-part-items.ensures.rest c.split-part-items.ensures.done c.split-part-items.ensures.closure (λ x b q k. search (rules, tests))))
    c.loop-part.yielded _ c.loop-part.yielded_by _ _ c.in-None.is c.next.ensures.steps in
    c.loop-part.invariant
    ∙ ap (list_any (λ part. is_step part && bytes_eq part c.args.name.now)) (take_all (length c.loop-part.yielded) (slice_split (λ b. b == 47) c.args.path.now) (omega (arith, t.1)))
