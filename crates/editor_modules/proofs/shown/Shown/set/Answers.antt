use Rattle.std.proofs.Common.{arith, subst, sym, true≢false}
use Rattle.std.specs.Prelude.{IsOk}
use Rattle.editor_modules.proofs.shown.Shown.set.Goals.{in-Err, in-Ok}
use Rattle.editor_modules.proofs.shown.Shown.set.Goals as goal

pub returns-clause-err : goal.returns-clause-err
returns-clause-err c =
    let there : IsOk c.push.result = c.push.ensures.succeeds (omega (arith, c.in_ok-reserve.ensures.ok, c.remove_module.ensures.len, c.remove_module.ensures.capacity)) in
    elim c.match-push.branch [
      | in-Ok w ↦ rw w.result-is tt
      | in-Err w ↦ absurd (true≢false (sym (subst IsOk w.in-Err.is there)))
    ]
