use Rattle.std.proofs.Common.{◌∙◌, ap, sym, true≢false}
use Rattle.module_find.specs.Inner.Adding.{TakesFound}
use Rattle.module_find.proofs.ModuleLemmas.{file_taken, not_named, on_ok_more}
use Rattle.module_find.proofs.modules.Sorted.take_file.Goals as goal

pub take_fault-requires-in-Err : goal.take_fault-requires-in-Err
take_fault-requires-in-Err c = record {
  why = not_named c.args.found c.into_bytes-name.result.items (ap (λ v. v.items) (c.into_bytes-name.ensures.value ∙ c.in-Err.ensures.err)) c.requires.good c.requires.named c.if-is_none.ensures (λ u. true≢false (sym (c.in-Err.ensures.succeeds u)));
}

pub returns-in-Ok : goal.returns-in-Ok
returns-in-Ok c =
    on_ok_more c.add_file.result _ (TakesFound c.args.found c.args.self.now c.add_file.new.self) c.add_file.ensures.files
    (λ h. file_taken c.args.found c.in-Ok.text c.args.self.now c.add_file.new.self c.requires.good c.requires.named c.if-is_none.ensures c.in-Ok.ensures.ok c.add_file.ensures.whole c.add_file.ensures.folder c.add_file.ensures.told h)
