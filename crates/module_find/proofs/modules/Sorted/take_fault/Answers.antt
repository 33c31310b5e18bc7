use Rattle.std.proofs.Common.{◌∙◌, ap}
use Rattle.std.specs.Prelude.{not}
use Rattle.module_find.specs.Inner.Adding.{TakesFound}
use Rattle.module_find.specs.Modules.{is_of_module}
use Rattle.module_find.proofs.ModuleLemmas.{fault_taken, on_ok_more}
use Rattle.module_find.proofs.modules.Sorted.take_fault.Goals as goal

pub returns : goal.returns
returns c =
    on_ok_more c.tell.result _ (TakesFound c.args.found c.args.self.now c.tell.new.self) c.tell.ensures.faults
    (λ h. fault_taken c.args.found c.args.fault c.args.self.now c.tell.new.self (not c.is_of_module-is_sound.result) c.requires.why (c.tell.ensures.module ∙ (λ i. record c.args.self.now.module { is_whole = c.both-self.ensures i }))
    (ap not (c.is_of_module-is_sound.ensures ∙ ap is_of_module c.as_slice.ensures.value)) h)
