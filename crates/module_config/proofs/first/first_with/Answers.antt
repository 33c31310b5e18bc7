use Rattle.std.proofs.Common.{◌∙◌, ◌<◌, ◌≤◌, [], arith, length, map, sym, List, ℕ}
use Rattle.std.specs.Borrow.{Bor}
use Rattle.std.proofs.lemmas.List.{get_or-map, length-map}
use Rattle.module_config.proofs.LookLemmas.{entry_stuck, lacks_more, missing_then, none_there, stuck_then, up_false}
use Rattle.module_config.proofs.first.first_with.Goals as goal

pub returns-in-Err-clause-err : goal.returns-in-Err-clause-err
returns-in-Err-clause-err g c =
    let names = map (λ (f : Bor (List ℕ)). f.now) c.args.folders.now in
    let lt : c.loop-at.at < length names = omega (arith, length-map c.args.folders.now (λ (f : Bor (List ℕ)). f.now), c.loop-at-test.true) in
    stuck_then _ _ (g.T.Tree.faults c.args.tree.now) (g.T.Tree.faults c.loop-at.tree) _ c.in-Err.stuck
    (λ name h. entry_stuck c.args.entry.now names c.loop-at.at _ name lt (sym (get_or-map (λ (f : Bor (List ℕ)). f.now) c.args.folders.now c.loop-at.at _ [] c.loop-at-test.true)) h) c.loop-at.invariant.2 c.in-Err.ensures.err

pub loop-at-preserved : goal.loop-at-preserved
loop-at-preserved g c =
    let names = map (λ (f : Bor (List ℕ)). f.now) c.args.folders.now in
    let lt : c.loop-at.at < length names = omega (arith, length-map c.args.folders.now (λ (f : Bor (List ℕ)). f.now), c.loop-at-test.true) in
    let none = up_false (g.T.Tree.files c.args.tree.now) (g.T.Tree.files c.loop-at.tree) _ (g.T.Tree.faults c.loop-at.tree) (g.T.Tree.faults c.has.new.tree) c.in-Ok-false.field-0 c.loop-at.invariant.0 c.in-Ok-false.field-0-test c.in-Ok-false.ensures.ok in (
      c.in-Ok-false.ensures.unchanged.0 ∙ c.loop-at.invariant.0,
      c.in-Ok-false.ensures.unchanged.1 ∙ c.loop-at.invariant.1,
      missing_then _ _ _ c.loop-at.invariant.2 none.0,
      lacks_more (g.T.Tree.files c.args.tree.now) c.args.entry.now names c.loop-at.at _ lt (sym (get_or-map (λ (f : Bor (List ℕ)). f.now) c.args.folders.now c.loop-at.at _ [] c.loop-at-test.true)) none.1 c.loop-at.invariant.3,
    )

pub returns-clause-ok : goal.returns-clause-ok
returns-clause-ok g c =
    let names = map (λ (f : Bor (List ℕ)). f.now) c.args.folders.now in
    let all : length names ≤ c.loop-at.at = omega (arith, length-map c.args.folders.now (λ (f : Bor (List ℕ)). f.now), c.loop-at-test.false) in
    none_there (g.T.Tree.files c.args.tree.now) c.args.entry.now names c.loop-at.at _ _ _ (sym (length-map c.args.folders.now (λ (f : Bor (List ℕ)). f.now))) all c.loop-at.invariant.2 c.loop-at.invariant.3
