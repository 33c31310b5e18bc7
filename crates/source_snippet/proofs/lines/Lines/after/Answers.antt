use Rattle.std.proofs.Common.{◌∙◌, ap, sym}
use Rattle.source_snippet.specs.Snippets.{after_lines}
use Rattle.source_snippet.proofs.LineLemmas.{all_passed, empty, passed_enough}
use Rattle.source_snippet.proofs.lines.Lines.after.Goals as goal
use Rattle.source_snippet.proofs.lines.Lines.after.Goals.{then-loop-passed-test+else-not-is_empty, else-loop-passed-test}

pub returns-clause-rest : goal.returns-clause-rest
returns-clause-rest c =
    let held = c.loop-passed.invariant in
    let text = ap (after_lines c.args.count) c.self.view_is in
    elim c.loop-passed-test.branch [
      | then-loop-passed-test+else-not-is_empty w ↦
          let none = empty c.loop-passed.rest.now (sym w.is_empty.ensures ∙ w.if-not-is_empty.false) in
          none ∙ sym (all_passed c.loop-passed.passed c.args.count c.self.inside.text.now held.2 (sym held.1 ∙ none)) ∙ text
      | else-loop-passed-test w ↦ held.1 ∙ passed_enough c.loop-passed.passed c.args.count c.self.inside.text.now held.2 w.loop-passed-test.false ∙ text
    ]
