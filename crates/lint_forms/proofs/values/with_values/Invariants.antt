use Rattle.std.proofs.Common.{◌≡◌, ◌++◌, ◌||◌, take}
use Rattle.std.specs.List.{flat_map}
use Rattle.lint_forms.specs.Inner.Shapes.{shape_values}
use Rattle.lint_forms.specs.Values.{array_text}
use Rattle.lint_forms.proofs.ValuesLemmas.{has_values}
use Rattle.lint_forms.proofs.values.with_values.Given as goal

abbrev pub invariant-loop-entry : goal.invariant-loop-entry
invariant-loop-entry l =
    (l.longer.items ≡ l.initial.longer.items ++ array_text l.initial.goes_on (flat_map (shape_values l.shape) (take l.entry-index l.entries)))
    × (l.goes_on ≡ (l.initial.goes_on || has_values (flat_map (shape_values l.shape) (take l.entry-index l.entries))))
