use Rattle.std.proofs.Common.{◌≡◌, ◌∙◌, ◌+◌, ◌++◌, ◌∷◌, [], ap, sym, length, take, arith, ℕ, List, lit<}
use Rattle.std.specs.Prelude.{◌==◌, fold}
use Rattle.std.specs.List.{slice_split}
use Rattle.std.proofs.lemmas.List.{length_push, take_all, take_more}
use Rattle.std.proofs.lemmas.List.Sums.{fold-append}
use Rattle.std.proofs.lemmas.Iterator.Consumers.{YieldsList-at, YieldsList-end, YieldsList-turn}
use Rattle.std.proofs.lemmas.Iterator.Splits.{YieldsList-from_str_split}
use Rattle.module_config.specs.Lines.{no_options}
use Rattle.module_config.specs.Reads.{Read, read_line}
use Rattle.module_config.proofs.config_lines.config_in.Goals as goal

pub loop-line-preserved : goal.loop-line-preserved
loop-line-preserved c =
    let all : List (List ℕ) = slice_split (λ b. b == 10) c.args.text.now in
    let none : Read = record { said = no_options; lines = 0; faults = [] } in
    let t = YieldsList-turn (YieldsList-at c.into_iter-line-iterator.ensures.into_iter_gives
    (YieldsList-from_str_split 10 c.args.text.now (lit< tt) c.split-line-items.ensures.text c.split-line-items.ensures.has_more c.split-line-items.ensures.pattern))
    c.loop-line.yielded _ c.loop-line.yielded_by _ _ c.in-Some.line c.in-Some.is c.next.ensures.steps in
    let front : take (length c.loop-line.yielded) all ++ c.in-Some.line.now ∷ [] ≡ take (length c.loop-line.yielded + 1) all =
    ap (λ x. take (length c.loop-line.yielded) all ++ x ∷ []) t.1 ∙ sym (take_more all (length c.loop-line.yielded) c.in-Some.line.now t.0) in
    c.in_ok-take.ensures ∙ (ap (λ r. read_line r c.in-Some.line.now) c.loop-line.invariant
    ∙ (sym (fold-append read_line none (take (length c.loop-line.yielded) all) (c.in-Some.line.now ∷ []))
    ∙ ap (λ l. fold read_line none l) (front ∙ ap (λ n. take n all) (sym (length_push c.loop-line.yielded c.in-Some.line)))))

pub returns : goal.returns
returns c =
    let none : Read = record { said = no_options; lines = 0; faults = [] } in
    let t = YieldsList-end (YieldsList-at c.into_iter-line-iterator.ensures.into_iter_gives
    (YieldsList-from_str_split 10 c.args.text.now (lit< tt) c.split-line-items.ensures.text c.split-line-items.ensures.has_more c.split-line-items.ensures.pattern))
    c.loop-line.yielded _ c.loop-line.yielded_by _ _ c.in-None.is c.next.ensures.steps in
    c.loop-line.invariant ∙ ap (λ l. fold read_line none l) (take_all (length c.loop-line.yielded) (slice_split (λ b. b == 10) c.args.text.now) (omega (arith, t.1)))
