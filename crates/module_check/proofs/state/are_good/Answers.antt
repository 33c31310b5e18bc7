use Rattle.std.proofs.Common.{◌≤◌, ◌∙◌, ap, arith, length, sym}
use Rattle.std.proofs.lemmas.List.{take_all}
use Rattle.std.specs.List.{list_all}
use Rattle.module_check.specs.Checks.{is_good_file}
use Rattle.module_check.proofs.CheckLemmas.{all_more, not_all}
use Rattle.module_check.proofs.state.are_good.Goals as goal

pub loop-number-preserved : goal.loop-number-preserved
loop-number-preserved c =
    all_more is_good_file c.args.states.now c.loop-number.number c.index-states-number.result c.loop-number-test.true c.index-states-number.is
    (sym c.is_good_file.ensures ∙ c.if-not-is_good_file.false) c.loop-number.invariant

pub returns-then-not-is_good_file : goal.returns-then-not-is_good_file
returns-then-not-is_good_file c =
    sym (not_all is_good_file c.args.states.now c.loop-number.number c.index-states-number.result c.loop-number-test.true c.index-states-number.is (sym c.is_good_file.ensures ∙ c.if-not-is_good_file.true))

pub returns : goal.returns
returns c =
    let all : length c.args.states.now ≤ c.loop-number.number = omega (arith, c.loop-number-test.false) in
    sym (ap (list_all is_good_file) (sym (take_all c.loop-number.number c.args.states.now all)) ∙ c.loop-number.invariant)
