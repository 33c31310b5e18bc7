use Rattle.std.proofs.Common.{◌≡◌, ◌∙◌, ◌-◌, ap, ap₂, arith, length}
use Rattle.source_snippet.specs.Snippets.{after_lines}
use Rattle.module_check.proofs.MarkLemmas.{after_short, line_short}
use Rattle.module_check.proofs.mark.line_in.Goals as goal

pub overflow_sub-result : goal.overflow_sub-result
overflow_sub-result c =
    let is : c.after-rest.result.now ≡ after_lines (c.args.number - 1) c.args.text.now = c.after-rest.ensures.rest ∙ ap₂ after_lines c.saturating_sub.ensures c.requires in
    omega (arith, ap length is, after_short (c.args.number - 1) c.args.text.now)

pub returns-clause-within : goal.returns-clause-within
returns-clause-within c =
    let is : c.after-rest.result.now ≡ after_lines (c.args.number - 1) c.args.text.now = c.after-rest.ensures.rest ∙ ap₂ after_lines c.saturating_sub.ensures c.requires in
    omega (arith, ap length is, after_short (c.args.number - 1) c.args.text.now, line_short (after_lines (c.args.number - 1) c.args.text.now))
