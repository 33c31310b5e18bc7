use Rattle.std.proofs.Common.{map, take}
use Rattle.lint_forms.specs.Inner.Numbering.{times_seen}
use Rattle.lint_forms.specs.Inner.Shapes.{entry_by}
use Rattle.lint_forms.specs.Remarks.{said_by}
use Rattle.lint_forms.proofs.NumberingLemmas.{IsNumbered}
use Rattle.lint_forms.proofs.entry.entries_of.Given as goal

abbrev pub invariant-loop-remark : goal.invariant-loop-remark
invariant-loop-remark l = IsNumbered (map entry_by l.all.items) (λ q. times_seen l.times q) (map said_by (take l.remark-index l.remarks))
