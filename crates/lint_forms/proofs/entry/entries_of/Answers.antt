use Rattle.std.proofs.Common.{ap, map, refl}
use Rattle.lint_forms.specs.Inner.Numbering.{times_seen}
use Rattle.lint_forms.specs.Inner.Shapes.{entry_by}
use Rattle.lint_forms.specs.Remarks.{said_by}
use Rattle.lint_forms.proofs.NumberingLemmas.{one_more_at}
use Rattle.lint_forms.proofs.entry.entries_of.Goals as goal

pub loop-remark-init : goal.loop-remark-init
loop-remark-init c = record { all = ap (map entry_by) c.new-all.ensures.items; counted = λ q. rw c.new-times.ensures.empty refl }

pub loop-remark-preserved : goal.loop-remark-preserved
loop-remark-preserved c =
    one_more_at said_by _ _ (λ q. times_seen c.loop-remark.times q) (λ q. times_seen c.add.new.times q) c.args.remarks.now c.loop-remark.remark-index _
    c.loop-remark-test.true c.loop-remark.invariant c.in_ok-add.ensures.added c.in_ok-add.ensures.counted
