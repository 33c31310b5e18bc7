use Rattle.module_check.proofs.CheckLemmas.{is_checked, rising}
use Rattle.module_check.proofs.check.check_module.Goals as goal

pub returns-clause-checked : goal.returns-clause-checked
returns-clause-checked g c =
    let h = c.in_ok-files.ensures.judged in
    let are = c.in_ok-list.ensures h.files h.kept_is (rising 0 c.in_ok-files.files.items h.files h.accepted) in
    is_checked _ _ c.args.settings c.settings_told-told.result _ _ _ _ h c.as_slice.ensures.value c.settings_told-told.ensures are c.in_ok-issues.ensures
