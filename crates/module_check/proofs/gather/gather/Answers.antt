use Rattle.std.proofs.Common.{◌≡◌, ◌≤◌, ◌∙◌, ◌<◌, [], ap, arith, get_or, length, lit≤, map, refl, subst, sym}
use Rattle.std.proofs.lemmas.List.{length-map, take_all}
use Rattle.std.specs.Prelude.{fold, string_bytes}
use Rattle.file_tree.specs.Files.{Files}
use Rattle.tfrules_command.specs.Files.{max_module}
use Rattle.module_check.proofs.CheckLemmas.{fits_with, judged_more, judged_none, name_here, sum_more}
use Rattle.module_check.specs.Checks.{size_with}
use Rattle.module_check.specs.Inner.Judging.{HaveStates}
use Rattle.module_check.proofs.gather.gather.Goals as goal

pub loop-number-init : goal.loop-number-init
loop-number-init g c = (refl, refl, ap (fold size_with 0) (sym c.new-states.ensures.items), lit≤ tt, judged_none _ c.new-states.result.items c.args.facts.now c.new-states.ensures.items c.requires.none)

pub size_with-size-requires : goal.size_with-size-requires
size_with-size-requires g c = fits_with ((g.T.Tree.files c.loop-number.tree).told ((g.T.Tree.files c.loop-number.tree).real c.as_str-name.result.now)) c.loop-number.size c.in_ok-state.state c.loop-number.invariant.3 c.in_ok-state.ensures.is.0

pub loop-number-preserved : goal.loop-number-preserved
loop-number-preserved g c =
    let kept = c.loop-number.invariant in
    let number = c.loop-number.number in
    let size = c.loop-number.size in
    let states = c.loop-number.states.items in
    let state = c.in_ok-state.state in
    let name = c.as_str-name.result.now in
    let first = g.T.Tree.files c.args.tree.now in
    let later = g.T.Tree.files c.loop-number.tree in
    let here = c.in_ok-state.ensures.is in
    let grown = c.in_ok-push.ensures.items in
    let names = map string_bytes c.args.names.now in
    let lt : number < length names = omega (arith, length-map c.args.names.now string_bytes, c.loop-number-test.true) in
    let named : name ≡ get_or names number [] = name_here c.args.names.now number c.index-names-number.result name c.loop-number-test.true c.index-names-number.is c.as_str-name.ensures.value in (
      c.in_ok-state.ensures.unchanged.0 ∙ kept.0,
      c.in_ok-state.ensures.unchanged.1 ∙ kept.1,
      sum_more size c.size_with-size.result states c.push.new.self.items state kept.2 c.size_with-size.ensures grown,
      subst (λ n. n ≤ max_module) (sym c.size_with-size.ensures) (fits_with (later.told (later.real name)) size state kept.3 here.0),
      judged_more (λ n. first.told (first.real n)) names number size name (later.told (later.real name)) states c.push.new.self.items state c.loop-number.facts c.state_of.new.facts lt named (ap (λ (f : Files). f.told (f.real name)) kept.0) kept.2 grown kept.4 here.0 here.1,
    )

pub returns-clause-judged : goal.returns-clause-judged
returns-clause-judged g c =
    let kept = c.loop-number.invariant in
    let names = map string_bytes c.args.names.now in
    let all : length names ≤ c.loop-number.number = omega (arith, length-map c.args.names.now string_bytes, c.loop-number-test.false) in
    subst (λ ns. HaveStates (λ name. (g.T.Tree.files c.args.tree.now).told ((g.T.Tree.files c.args.tree.now).real name)) ns c.loop-number.states.items c.loop-number.facts) (take_all c.loop-number.number names all) kept.4
