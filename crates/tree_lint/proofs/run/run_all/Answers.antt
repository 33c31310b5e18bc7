use Rattle.std.proofs.Common.{◌≡◌, ◌∙◌, [], ◌<◌, ◌≤◌, ◌+◌, ap, arith, drop, false, length, refl, subst, sym, take}
use Rattle.std.proofs.lemmas.List.{length-take-le, take_all}
use Rattle.command_line.specs.Rows.{writer}
use Rattle.command_line.proofs.WriterLemmas.{appends_nothing}
use Rattle.command_line.proofs.ListCutLemmas.{split_here, take_one}
use Rattle.file_tree.specs.Files.{Files}
use Rattle.tree_lint.specs.Inner.Growth.{counts_with}
use Rattle.tree_lint.specs.Inner.Showing.{Shows}
use Rattle.tree_lint.specs.Verdicts.{IsVerdict}
use Rattle.tree_lint.proofs.TreeRunLemmas.{first_good, has_room, run_cut, run_whole, second_good, so_far_more, so_far_none}
use Rattle.tree_lint.proofs.run.run_all.Goals as goal

pub loop-one-init : goal.loop-one-init
loop-one-init g c = (c.requires.out, c.requires.err, c.requires.back, refl, refl, so_far_none (g.T.Tree.files c.args.files.now.tree) c.args.manner [] _ _ _ _ _ _ (appends_nothing _) c.new-counts.ensures c.new-kept.ensures.none)

pub loop-one-preserved : goal.loop-one-preserved
loop-one-preserved g c =
    let first = g.T.Tree.files c.args.files.now.tree in
    let good : g.O.ByteSink.failed c.lint_one-ended.new.streams.out ≡ false = first_good _ _ (g.E.ByteSink.failed c.lint_one-ended.new.streams.err) c.has_failed.ensures c.if-has_failed.false in
    let good' : g.E.ByteSink.failed c.lint_one-ended.new.streams.err ≡ false = second_good _ (g.O.ByteSink.failed c.lint_one-ended.new.streams.out) _ c.has_failed.ensures c.if-has_failed.false in
    let shows = subst
    (λ (f : Files). Shows (record { policy = c.one-item.result.policy; manner = c.args.manner; is_after = c.loop-one.has_output }) c.one-item.result.module (IsVerdict f c.args.manner.terminals c.one-item.result.policy c.one-item.result.module (g.T.Tree.faults c.loop-one.files.tree) (g.T.Tree.faults c.lint_one-ended.new.files.tree))
    (writer g.O.ByteSink c.loop-one.streams.out c.lint_one-ended.new.streams.out) (writer g.E.ByteSink c.loop-one.streams.err c.lint_one-ended.new.streams.err) c.loop-one.kept c.lint_one-ended.new.kept c.lint_one-ended.result)
    c.loop-one.invariant.3 c.lint_one-ended.ensures.shows in (
      good,
      good',
      c.lint_one-ended.ensures.leaves.1,
      c.lint_one-ended.ensures.leaves.0.0 ∙ c.loop-one.invariant.3,
      c.lint_one-ended.ensures.leaves.0.1 ∙ c.loop-one.invariant.4,
      so_far_more first c.args.manner [] (take c.loop-one.one-index c.args.modules.now) c.one-item.result _ _ _ _ _ c.loop-one.has_output c.loop-one.status c.loop-one.counts c.loop-one.kept _ _ _ c.lint_one-ended.result c.loop-one.invariant.5 shows _ _ _ _
          (take_one c.args.modules.now c.loop-one.one-index c.one-item.result c.loop-one-test.true c.one-item.is) good good' c.either-has_output.ensures c.worse_status-status.ensures
          (c.add-counts.ensures.sum ∙ ap (λ v. counts_with c.loop-one.counts v c.lint_one-ended.result.status c.lint_one-ended.result.issues) c.is_module.ensures) c.add-counts.ensures.small,
    )

pub returns-then-has_failed-clause-ran : goal.returns-then-has_failed-clause-ran
returns-then-has_failed-clause-ran g c =
    let first = g.T.Tree.files c.args.files.now.tree in
    let shows = subst
    (λ (f : Files). Shows (record { policy = c.one-item.result.policy; manner = c.args.manner; is_after = c.loop-one.has_output }) c.one-item.result.module (IsVerdict f c.args.manner.terminals c.one-item.result.policy c.one-item.result.module (g.T.Tree.faults c.loop-one.files.tree) (g.T.Tree.faults c.lint_one-ended.new.files.tree))
    (writer g.O.ByteSink c.loop-one.streams.out c.lint_one-ended.new.streams.out) (writer g.E.ByteSink c.loop-one.streams.err c.lint_one-ended.new.streams.err) c.loop-one.kept c.lint_one-ended.new.kept c.lint_one-ended.result)
    c.loop-one.invariant.3 c.lint_one-ended.ensures.shows in
    run_cut first c.args.manner [] (take c.loop-one.one-index c.args.modules.now) c.one-item.result _ _ _ _ _ c.loop-one.has_output c.loop-one.status c.loop-one.counts c.loop-one.kept _ _ _ c.lint_one-ended.result c.loop-one.invariant.5 shows c.args.modules.now
    (drop (c.loop-one.one-index + 1) c.args.modules.now) _ _ _ _ (split_here c.args.modules.now c.loop-one.one-index c.one-item.result c.loop-one-test.true c.one-item.is) (sym c.has_failed.ensures ∙ c.if-has_failed.true) c.with_failed_write.ensures

pub returns-clause-ran : goal.returns-clause-ran
returns-clause-ran g c =
    let all : length c.args.modules.now ≤ c.loop-one.one-index = omega (arith, c.loop-one-test.false) in
    run_whole (g.T.Tree.files c.args.files.now.tree) c.args.manner [] c.args.modules.now (take c.loop-one.one-index c.args.modules.now) _ _ _ _ c.loop-one.has_output c.loop-one.status c.loop-one.counts c.loop-one.kept _
    (take_all c.loop-one.one-index c.args.modules.now all) c.loop-one.invariant.5 c.loop-one.invariant.0 c.loop-one.invariant.1 refl refl refl

pub add-counts-requires : goal.add-counts-requires
add-counts-requires g c =
    let few : length (take c.loop-one.one-index c.args.modules.now) < 18446744073709551615 = omega (arith, length-take-le c.loop-one.one-index c.args.modules.now, c.loop-one-test.true, c.loop-one.auto.one-index-end) in
    has_room (g.T.Tree.files c.args.files.now.tree) c.args.manner [] (take c.loop-one.one-index c.args.modules.now) _ _ _ _ _ _ c.loop-one.has_output c.loop-one.status c.loop-one.counts c.loop-one.kept c.loop-one.invariant.5 few
