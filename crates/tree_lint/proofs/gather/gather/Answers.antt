use Rattle.std.proofs.Common.{◌≡◌, ◌∙◌, ◌≤◌, ◌<◌, [], ap, arith, get_or, length, lit≤, map, refl, subst}
use Rattle.std.proofs.lemmas.List.{length-map, take_all}
use Rattle.std.specs.Prelude.{string_bytes}
use Rattle.tree_lint.specs.Inner.Gathering.{ReachedAll}
use Rattle.module_find.specs.Modules.{bytes_of_name}
use Rattle.tree_lint.specs.declared.written.Terminals.{Terminals}
use Rattle.tree_lint.proofs.FileLemmas.{name_here, reached_all_more, reached_all_none, stops_at, told_here}
use Rattle.tree_lint.proofs.gather.gather.Goals as goal

pub loop-number-init : goal.loop-number-init
loop-number-init g c = (refl, refl, refl, lit≤ tt, reached_all_none _ c.args.into.now c.requires.none, c.requires.back)

pub loop-number-preserved : goal.loop-number-preserved
loop-number-preserved g c =
    let kept = c.loop-number.invariant in
    let a = c.in-Ok.ensures.adds in
    let lt : c.loop-number.number < length (map string_bytes c.args.names.now) = omega (arith, length-map c.args.names.now string_bytes, c.loop-number-test.true) in
    let named : c.as_str-name.result.now ≡ get_or (map string_bytes c.args.names.now) c.loop-number.number [] = name_here c.args.names.now c.loop-number.number c.index-names-number.result c.as_str-name.result.now c.loop-number-test.true c.index-names-number.is c.as_str-name.ensures.value in (
      c.in-Ok.ensures.leaves.0.0 ∙ kept.0,
      c.in-Ok.ensures.leaves.0.1 ∙ kept.1,
      a.0 ∙ kept.2,
      a.1.added.fits,
      reached_all_more _ (map string_bytes c.args.names.now) c.loop-number.number c.loop-number.size c.in-Ok.all c.as_str-name.result.now _ _ _ _ _ lt named (told_here _ _ c.as_str-name.result.now kept.0) kept.4 a.1,
      c.in-Ok.ensures.leaves.1,
    )

pub returns-in-Err-clause-gathers : goal.returns-in-Err-clause-gathers
returns-in-Err-clause-gathers g c =
    let kept = c.loop-number.invariant in
    let lt : c.loop-number.number < length (map string_bytes c.args.names.now) = omega (arith, length-map c.args.names.now string_bytes, c.loop-number-test.true) in
    let named : c.as_str-name.result.now ≡ get_or (map string_bytes c.args.names.now) c.loop-number.number [] = name_here c.args.names.now c.loop-number.number c.index-names-number.result c.as_str-name.result.now c.loop-number-test.true c.index-names-number.is c.as_str-name.ensures.value in
    stops_at _ _ _ (map string_bytes c.args.names.now) c.loop-number.number c.loop-number.size c.as_str-name.result.now _ _ _ _ _ c.in-Err.why lt named (told_here _ _ c.as_str-name.result.now kept.0) kept.2 kept.4.reached
    (ap (λ (t : Terminals). t.err) kept.4.terminals_are) c.in-Err.ensures.adds

pub returns-clause-gathers : goal.returns-clause-gathers
returns-clause-gathers g c =
    let kept = c.loop-number.invariant in
    let all : length (map string_bytes c.args.names.now) ≤ c.loop-number.number = omega (arith, length-map c.args.names.now string_bytes, c.loop-number-test.false) in
    (kept.2, (c.loop-number.size, subst (λ names. ReachedAll (bytes_of_name (g.T.Tree.files c.args.files.now.tree)) names c.loop-number.size c.args.into.now.checks c.args.into.now.terminals c.loop-number.into) (take_all c.loop-number.number (map string_bytes c.args.names.now) all) kept.4))

pub returns-in-Err-clause-leaves : goal.returns-in-Err-clause-leaves
returns-in-Err-clause-leaves g c = ((c.in-Err.ensures.leaves.0.0 ∙ c.loop-number.invariant.0, c.in-Err.ensures.leaves.0.1 ∙ c.loop-number.invariant.1), c.in-Err.ensures.leaves.1)
