use Rattle.std.proofs.Common.{◌∙◌, ap, append-nil, refl, subst, sym}
use Rattle.file_tree.specs.Ordered.{HasName}
use Rattle.module_find.specs.Inner.Adding.{AddsFolder}
use Rattle.module_find.specs.Modules.{folder_of, stands}
use Rattle.module_find.proofs.ModuleLemmas.{folder_added, folder_passed, on_ok_more}
use Rattle.module_find.proofs.folders.add_folder.Goals as goal

pub returns : goal.returns
returns c =
    on_ok_more c.keep.result _ (AddsFolder (stands c.args.found.now) c.args.found.now c.args.folders.now.items c.keep.new.kept.items) c.keep.ensures
    (λ h. folder_added (stands c.args.found.now) c.args.found.now _ c.args.folders.now.items c.keep.new.kept.items (sym c.stands.ensures ∙ c.if-not-stands.false)
    (c.in_ok-name.ensures ∙ append-nil _ ∙ c.folder_of-folder.ensures ∙ ap folder_of c.as_slice.ensures.value) refl h)

pub returns-then-is_last : goal.returns-then-is_last
returns-then-is_last c =
    folder_passed (stands c.args.found.now) c.args.found.now c.args.folders.now.items (sym c.stands.ensures ∙ c.if-not-stands.false)
    (subst (λ l. HasName l (folder_of c.args.found.now.name.items)) c.as_slice-2.ensures.value
    (subst (HasName c.as_slice-2.result.now) (c.folder_of-folder.ensures ∙ ap folder_of c.as_slice.ensures.value) (c.is_last.ensures c.if-is_last.true)))
