use Rattle.std.proofs.Common.{◌≡◌, ◌∙◌, ◌≤◌, ◌+◌, ap, arith, drop, false, length, refl, subst, sym, take}
use Rattle.std.proofs.lemmas.List.{length-take-le, take_all}
use Rattle.std.proofs.lemmas.List.Elements.{All-get_or, All-nil}
use Rattle.std.specs.Prelude.{◌≢◌, All}
use Rattle.command_line.specs.Rows.{TookBy}
use Rattle.tree_format.specs.Reports.{report_of, worse_status}
use Rattle.tree_format.specs.Runs.{Settled}
use Rattle.file_tree.specs.declared.walk.Found.{Found}
use Rattle.tree_format.proofs.FileRunLemmas.{can_grow, first_good, good_answer, left_good, one_bad, right_good, run_all, run_cut, second_good, so_far_more, so_far_none, tallies_as}
use Rattle.command_line.proofs.ListCutLemmas.{split_here, take_one}
use Rattle.tree_format.proofs.KeptFormatLemmas.{all_settled, kept_same, kept_trans, settled_after}
use Rattle.tree_format.proofs.run.run_over.Goals as goal

pub loop-found-init : goal.loop-found-init
loop-found-init g c = (c.requires.out, c.requires.err, λ name. kept_same _ _ _ refl, λ name. refl, λ ne. All-nil _, λ name other. refl, so_far_none _ _ _ _ _ _ c.new-tally.ensures)

pub loop-found-preserved : goal.loop-found-preserved
loop-found-preserved g c =
    let first = g.T.Tree.files c.args.tree.now in let old = g.T.Tree.files c.loop-found.tree in let new = g.T.Tree.files c.look_at-outcome.new.tree in
    let good : g.O.ByteSink.failed c.report.new.streams.out ≡ false = left_good _ _ _ (g.E.ByteSink.failed c.report.new.streams.err) c.report.ensures.failed c.is_err.ensures.value c.if-is_err.false in
    let good' : g.E.ByteSink.failed c.report.new.streams.err ≡ false = right_good _ _ (g.O.ByteSink.failed c.report.new.streams.out) _ c.report.ensures.failed c.is_err.ensures.value c.if-is_err.false in
    let name = c.found-item.result.name.items in (
      good,
      good',
      λ name. kept_trans _ _ _ _ (c.loop-found.invariant.2 name) (c.look_at-outcome.ensures.kept name),
      λ name. c.look_at-outcome.ensures.real name ∙ c.loop-found.invariant.3 name,
      λ ne. all_settled c.args.mode (λ f. first.real f.name.items) first.told old.told new.told c.look_at-outcome.ensures.kept c.args.all.now c.loop-found.found-index c.found-item.result c.loop-found-test.true
          (c.loop-found.invariant.4 (first_good _ _ (λ e. ne (c.worse_status-status.ensures ∙ e))))
          (subst (λ (f : Found). Settled c.args.mode (first.told (first.real f.name.items)) (new.told (first.real f.name.items)))
          c.found-item.is
          (settled_after _ _ _ _ (c.loop-found.invariant.2 _)
          (subst (λ n. Settled c.args.mode (old.told n) (new.told n)) (c.loop-found.invariant.3 c.found-item.result.name.items) (c.look_at-outcome.ensures.settled (good_answer c.args.mode name c.look_at-outcome.result (λ e. second_good _ _ (λ e. ne (c.worse_status-status.ensures ∙ e)) (c.status_of.ensures name ∙ e))))))),
      λ name other. c.look_at-outcome.ensures.elsewhere name
          (subst (λ n. name ≢ n) (sym (c.loop-found.invariant.3 c.found-item.result.name.items)) (subst (λ (f : Found). name ≢ first.real f.name.items) (sym c.found-item.is) (All-get_or (λ (f : Found). name ≢ first.real f.name.items) c.args.all.now c.loop-found.found-index c.found-item.result c.loop-found-test.true other)))
          ∙ c.loop-found.invariant.5 name other,
      so_far_more _ c.args.mode (take c.loop-found.found-index c.args.all.now) _ c.found-item.result c.look_at-outcome.result _ _ _ _ _ _ _ _ _ _ _ _ _ _ _ (take_one c.args.all.now c.loop-found.found-index c.found-item.result c.loop-found-test.true c.found-item.is)
          c.loop-found.invariant.6 c.add-tally.ensures c.look_at-outcome.ensures.sees good (subst (λ n. TookBy (g.O.ByteSink.failed c.report.new.streams.out) (g.O.ByteSink.taken c.loop-found.streams.out) (g.O.ByteSink.taken c.report.new.streams.out) (report_of c.args.mode n c.look_at-outcome.result).out) c.as_slice.ensures.value c.report.ensures.out)
          good' (subst (λ n. TookBy (g.E.ByteSink.failed c.report.new.streams.err) (g.E.ByteSink.taken c.loop-found.streams.err) (g.E.ByteSink.taken c.report.new.streams.err) (report_of c.args.mode n c.look_at-outcome.result).err) c.as_slice.ensures.value c.report.ensures.err)
          (c.worse_status-status.ensures ∙ ap (worse_status c.loop-found.status) (c.status_of.ensures name)),
    )

pub returns-then-is_err-clause-kept : goal.returns-then-is_err-clause-kept
returns-then-is_err-clause-kept g c name = kept_trans _ _ _ _ (c.loop-found.invariant.2 name) (c.look_at-outcome.ensures.kept name)

pub returns-clause-done : goal.returns-clause-done
returns-clause-done g c ne =
    let first = g.T.Tree.files c.args.tree.now in let now = g.T.Tree.files c.loop-found.tree in
    let all : length c.args.all.now ≤ c.loop-found.found-index = omega (arith, c.loop-found-test.false) in
    subst (All (λ f. Settled c.args.mode (first.told (first.real f.name.items)) (now.told (first.real f.name.items)))) (take_all c.loop-found.found-index c.args.all.now all) (c.loop-found.invariant.4 ne)

pub returns-then-is_err-clause-ran : goal.returns-then-is_err-clause-ran
returns-then-is_err-clause-ran g c =
    tallies_as _ _ _ _ _ _ _ _ c.shows_lines-shows.ensures
    (run_cut _ c.args.mode c.args.all.now (take c.loop-found.found-index c.args.all.now) (drop (c.loop-found.found-index + 1) c.args.all.now) c.found-item.result c.look_at-outcome.result _ _ _ _ _ _ _ _ _ _
    (split_here c.args.all.now c.loop-found.found-index c.found-item.result c.loop-found-test.true c.found-item.is)
    c.loop-found.invariant.6 c.add-tally.ensures c.look_at-outcome.ensures.sees (one_bad _ _ (g.O.ByteSink.failed c.report.new.streams.out) (g.E.ByteSink.failed c.report.new.streams.err) c.report.ensures.failed c.is_err.ensures.value c.if-is_err.true)
    (subst (λ n. TookBy (g.O.ByteSink.failed c.report.new.streams.out) (g.O.ByteSink.taken c.loop-found.streams.out) (g.O.ByteSink.taken c.report.new.streams.out) (report_of c.args.mode n c.look_at-outcome.result).out) c.as_slice.ensures.value c.report.ensures.out)
    (subst (λ n. TookBy (g.E.ByteSink.failed c.report.new.streams.err) (g.E.ByteSink.taken c.loop-found.streams.err) (g.E.ByteSink.taken c.report.new.streams.err) (report_of c.args.mode n c.look_at-outcome.result).err) c.as_slice.ensures.value c.report.ensures.err))

pub returns-clause-ran : goal.returns-clause-ran
returns-clause-ran g c =
    let all : length c.args.all.now ≤ c.loop-found.found-index = omega (arith, c.loop-found-test.false) in
    tallies_as _ _ _ _ _ _ _ _ c.shows_lines-shows.ensures
    (run_all _ c.args.mode c.args.all.now _ _ _ c.loop-found.status c.loop-found.tally _ _ (take_all c.loop-found.found-index c.args.all.now all) c.loop-found.invariant.6 c.loop-found.invariant.0 c.loop-found.invariant.1)

pub add-tally-requires : goal.add-tally-requires
add-tally-requires g c =
    can_grow _ _ (take c.loop-found.found-index c.args.all.now) _ _ _ _ _ _ _ _ c.loop-found.invariant.6
    (omega (arith, length-take-le c.loop-found.found-index c.args.all.now, c.loop-found-test.true, c.loop-found.auto.found-index-end))
