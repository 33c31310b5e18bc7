use Rattle.std.proofs.Common.{◌∙◌, ◌++◌, ◌-◌, ◌∷◌, [], ap, arith, drop, length, map}
use Rattle.std.proofs.lemmas.List.{length-drop, take_all}
use Rattle.line_diff.proofs.SplitLemmas.{last_line, line_ends, line_goes, one_line, read_here}
use Rattle.line_diff.proofs.lines.lines_of.Goals as goal

pub loop-at-preserved-then-text-at-ne10 : goal.loop-at-preserved-then-text-at-ne10
loop-at-preserved-then-text-at-ne10 c =
    (omega (arith, c.loop-at.invariant.0), line_goes _ _ c.args.text.now c.loop-at.start c.loop-at.at _ c.loop-at.invariant.0 c.loop-at-test.true (read_here c.args.text.now c.loop-at.at 0 c.loop-at-test.true) c.if-text-at-ne10.true c.loop-at.invariant.1)

pub loop-at-preserved : goal.loop-at-preserved
loop-at-preserved c = (
  omega arith,
  line_ends _ _ _ c.args.text.now c.loop-at.start c.loop-at.at _ c.loop-at.invariant.0 c.loop-at-test.true (read_here c.args.text.now c.loop-at.at 0 c.loop-at-test.true) c.if-text-at-ne10.false
      (ap (λ lines. map (λ line. line.now) lines) c.in_default.ensures.items ∙ one_line (λ line. line.now) c.loop-at.lines.items _) c.loop-at.invariant.1,
)

pub returns : goal.returns
returns c =
    last_line _ _ _ c.args.text.now c.loop-at.start c.loop-at.at (omega (arith, c.loop-at-test.false)) (omega (arith, c.if-start-text.false))
    (ap (λ lines. map (λ line. line.now) lines) c.in_default-push.ensures.items ∙ one_line (λ line. line.now) c.loop-at.lines.items _
    ∙ ap (λ line. map (λ line. line.now) c.loop-at.lines.items ++ line ∷ []) (take_all (length c.args.text.now - c.loop-at.start) (drop c.loop-at.start c.args.text.now) (omega (arith, length-drop c.loop-at.start c.args.text.now))))
    c.loop-at.invariant.1
