use Rattle.std.proofs.Common.{◌∙◌, ◌∷◌, ◌++◌, [], ap, arith, length, map, rules, sym, take, tests}
use Rattle.std.specs.Prelude.{◌==◌, filter, not}
use Rattle.std.specs.List.{slice_split}
use Rattle.std.proofs.lemmas.List.{length_push, map-append, take_all, take_more}
use Rattle.std.proofs.lemmas.Iterator.Consumers.{YieldsList-at, YieldsList-end, YieldsList-turn}
use Rattle.std.proofs.lemmas.Iterator.Splits.{YieldsList-from_slice_split}
use Rattle.tf_facts.specs.Silencing.{trim_blanks}
use Rattle.tree_lint.specs.CommentTexts.{is_known, unknown_text}
use Rattle.tree_lint.specs.Inner.NameTexts.{with_unknown}
use Rattle.tree_lint.proofs.NameLemmas.{unknown_more}
use Rattle.tree_lint.proofs.comment_text.unknown_text.Goals as goal

pub loop-part-preserved : goal.loop-part-preserved
loop-part-preserved c =
    let parts = slice_split (λ b. b == 44) c.args.list.now in
    let n = length c.loop-part.yielded in
    let t = YieldsList-turn (YieldsList-at c.into_iter-part-iterator.ensures.into_iter_gives
    (YieldsList-from_slice_split _ (λ b. b == 44) c.args.list.now c.split-part-items.ensures.rest c.split-part-items.ensures.done c.split-part-items.ensures.closure (λ x b q k. search (rules, tests))))
    c.loop-part.yielded _ c.loop-part.yielded_by _ _ c.in-Some.part c.in-Some.is c.next.ensures.steps in
    c.in_ok-push_unknown.ensures
    ∙ ap (with_unknown c.loop-part.text.items) c.trim_blanks.ensures
    ∙ ap (λ l. with_unknown l (trim_blanks c.in-Some.part.now)) c.loop-part.invariant
    ∙ sym (unknown_more (map trim_blanks (take n parts)) (trim_blanks c.in-Some.part.now))
    ∙ ap (λ l. unknown_text (filter (λ name. not (is_known name)) l))
    (ap (λ p. map trim_blanks (take n parts) ++ trim_blanks p ∷ []) t.1 ∙ sym (map-append trim_blanks (take n parts) (_ ∷ [])) ∙ ap (map trim_blanks) (sym (take_more parts n c.in-Some.part.now t.0)))
    ∙ ap (λ k. unknown_text (filter (λ name. not (is_known name)) (map trim_blanks (take k parts)))) (sym (length_push c.loop-part.yielded c.in-Some.part))

pub returns : goal.returns
returns c =
    let parts = slice_split (λ b. b == 44) c.args.list.now in
    let t = YieldsList-end (YieldsList-at c.into_iter-part-iterator.ensures.into_iter_gives
    (YieldsList-from_slice_split _ (λ b. b == 44) c.args.list.now c.split-part-items.ensures.rest c.split-part-items.ensures.done c.split-part-items.ensures.closure (λ x b q k. search (rules, tests))))
    c.loop-part.yielded _ c.loop-part.yielded_by _ _ c.in-None.is c.next.ensures.steps in
    c.loop-part.invariant
    ∙ ap (λ l. unknown_text (filter (λ name. not (is_known name)) (map trim_blanks l))) (take_all (length c.loop-part.yielded) parts (omega (arith, t.1)))
