use Rattle.std.proofs.Common.{◌∙◌, ◌++◌, ◌∷◌, [], ℕ, List, Bor, ap, arith, length, map, rules, sym, take, tests}
use Rattle.std.specs.Prelude.{◌==◌}
use Rattle.std.proofs.lemmas.Iterator.Consumers.{YieldsList-at, YieldsList-end, YieldsList-turn}
use Rattle.std.proofs.lemmas.Iterator.Splits.{YieldsList-from_slice_split}
use Rattle.std.proofs.lemmas.List.{length_push, map_push, take_all, take_more}
use Rattle.file_tree.specs.Below.{names_in_listing}
use Rattle.file_tree.proofs.TidyLemmas.{pushed}
use Rattle.file_tree.proofs.path.names_in.Goals as goal

pub loop-name-preserved : goal.loop-name-preserved
loop-name-preserved c =
    let all : List (List ℕ) = names_in_listing c.args.text.now in
    let t = YieldsList-turn (YieldsList-at c.into_iter-name-iterator.ensures.into_iter_gives
    (YieldsList-from_slice_split _ (λ b. b == 0) c.args.text.now c.split-name-items.ensures.rest c.split-name-items.ensures.done c.split-name-items.ensures.closure (λ x b q k. search (rules, tests))))
    c.loop-name.yielded _ c.loop-name.yielded_by _ _ c.in-Some.name c.in-Some.is c.next.ensures.steps in
    ap (map (λ (name : Bor (List ℕ)). name.now)) (pushed _ _ _ _ _ c.push.ensures.items c.is_err.ensures.value c.if-is_err.false)
    ∙ map_push (λ (name : Bor (List ℕ)). name.now) c.loop-name.names.items c.in-Some.name
    ∙ ap (λ l. l ++ c.in-Some.name.now ∷ []) c.loop-name.invariant
    ∙ ap (λ x. take (length c.loop-name.yielded) all ++ x ∷ []) t.1
    ∙ sym (take_more all (length c.loop-name.yielded) c.in-Some.name.now t.0)
    ∙ ap (λ n. take n all) (sym (length_push c.loop-name.yielded c.in-Some.name))

pub returns : goal.returns
returns c =
    let t = YieldsList-end (YieldsList-at c.into_iter-name-iterator.ensures.into_iter_gives
    (YieldsList-from_slice_split _ (λ b. b == 0) c.args.text.now c.split-name-items.ensures.rest c.split-name-items.ensures.done c.split-name-items.ensures.closure (λ x b q k. search (rules, tests))))
    c.loop-name.yielded _ c.loop-name.yielded_by _ _ c.in-None.is c.next.ensures.steps in
    c.loop-name.invariant ∙ take_all (length c.loop-name.yielded) (names_in_listing c.args.text.now) (omega (arith, t.1))
