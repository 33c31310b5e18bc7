use Rattle.std.proofs.Common.{◌∙◌, ap, refl, ℕ}
use Rattle.arrayvec.specs.ArrayVec.{ArrayVec}
use Rattle.tfrules_command.proofs.PageLemmas.{given_back}
use Rattle.tfrules_command.proofs.ReportPartLemmas.{part_more}
use Rattle.tfrules_command.proofs.report.hold.Goals as goal

pub returns-in-Err : goal.returns-in-Err
returns-in-Err c =
    given_back c.args.page.now.items c.push_part.new.page.items c.truncate.new.self.items _ c.len-before.result c.len-before.ensures.value (ap (λ (v : ArrayVec ℕ). v.items) c.in-Err.ensures.err ∙ c.loop-part.invariant)
    c.truncate.ensures.items

pub loop-part-preserved : goal.loop-part-preserved
loop-part-preserved c =
    part_more c.args.parts.now c.loop-part.part-index _ _ c.args.page.now.items c.loop-part.page.items c.push_part.new.page.items c.loop-part-test.true refl c.in_default.ensures.ok
    c.loop-part.invariant
