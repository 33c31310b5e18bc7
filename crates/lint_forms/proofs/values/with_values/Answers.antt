use Rattle.std.proofs.Common.{append-nil, refl, sym, true}
use Rattle.lint_forms.specs.Inner.Shapes.{shape_values}
use Rattle.lint_forms.proofs.ValuesLemmas.{goes_further_at, grown_at, or_nothing, or_true}
use Rattle.lint_forms.proofs.values.with_values.Goals as goal

pub loop-entry-init : goal.loop-entry-init
loop-entry-init c = (sym (append-nil c.args.text.items), or_nothing c.args.is_after)

pub loop-entry-preserved : goal.loop-entry-preserved
loop-entry-preserved c = (
  grown_at (shape_values c.args.shape) c.args.is_after c.loop-entry.goes_on c.args.text.items c.loop-entry.longer.items c.in_ok-longer.longer.items c.args.entries.now c.loop-entry.entry-index c.entry-item.result
      c.loop-entry-test.true c.entry-item.is c.loop-entry.invariant.0 c.loop-entry.invariant.1 c.in_ok-longer.ensures,
  goes_further_at (shape_values c.args.shape) c.args.is_after c.loop-entry.goes_on true true c.args.entries.now c.loop-entry.entry-index c.entry-item.result
      c.loop-entry-test.true c.loop-entry.invariant.1 refl (or_true c.loop-entry.goes_on),
)
