use Rattle.std.proofs.Common.{◌≡◌, refl, rules, subst}
use Rattle.std.specs.Prelude.{Err}
use Rattle.hcl_source.specs.declared.fault.LoadError.TheVariants.{Fault}
use Rattle.module_check.specs.Inner.Judging.{TellsLoaded}
use Rattle.module_check.proofs.judge.state_of_loaded.Goals as goal

pub returns-in-Ok : goal.returns-in-Ok
returns-in-Ok c told h =
    let t = subst (TellsLoaded told) c.in-Ok.is h in
    c.state_of_text.ensures told t.0 t.1

pub returns-in-Err-Fault : goal.returns-in-Err-Fault
returns-in-Err-Fault c told h =
    let is : c.args.loaded ≡ Err (Fault c.in-Err-Fault.fault) = search rules in
    (subst (TellsLoaded told) is h, refl)
