use Rattle.std.proofs.Common.{◌∙◌, ap, map, subst, sym, List, ℕ}
use Rattle.std.specs.Borrow.{Bor}
use Rattle.std.specs.Prelude.{codes, option_map}
use Rattle.module_config.specs.Governs.{Governs, counted_folders, file_at}
use Rattle.module_config.specs.Governors.{OnlyMissing}
use Rattle.module_config.specs.Inner.Looking.{LooksFirst}
use Rattle.module_config.proofs.LookLemmas.{file_asked, governs, stuck_then}
use Rattle.module_config.proofs.ReadLemmas.{if_ok_more}
use Rattle.module_config.proofs.governor.file_over.Goals as goal

pub returns-in-Ok-first_with-2-clause-ok : goal.returns-in-Ok-first_with-2-clause-ok
returns-in-Ok-first_with-2-clause-ok g c =
    let names = map (λ (f : Bor (List ℕ)). f.now) in
    if_ok_more c.found_at.result _ (λ file. OnlyMissing (g.T.Tree.faults c.args.tree.now) (g.T.Tree.faults c.first_with-2.new.tree)
    × Governs (g.T.Tree.files c.args.tree.now) c.args.current.now c.args.path.now (option_map (λ name. name.items) file)) c.found_at.ensures.ok
    (λ file h. governs (g.T.Tree.files c.args.tree.now) c.args.current.now c.args.path.now (names c.as_slice.result.now) (names c.as_slice-2.result.now) c.in-Ok-first_with.top c.in-Ok-first_with-2.at _ _ (g.T.Tree.faults c.first_with.new.tree) _
    (ap names c.as_slice.ensures.value ∙ c.in-Ok.ensures)
    (ap names c.as_slice-2.ensures.value ∙ c.in-Ok-counted_folders.ensures ∙ ap (λ l. counted_folders c.args.current.now l c.in-Ok-first_with.top) (sym (ap names c.as_slice.ensures.value)))
    c.in-Ok-first_with.ensures.ok
    (subst (λ f. LooksFirst f (codes ".tfrules") (names c.as_slice-2.result.now) (g.T.Tree.faults c.first_with.new.tree) (g.T.Tree.faults c.first_with-2.new.tree) c.in-Ok-first_with-2.at) c.first_with.ensures.unchanged.0 c.in-Ok-first_with-2.ensures.ok)
    (h ∙ ap (λ l. file_at (names l) c.in-Ok-first_with-2.at) (c.as_slice-in-Ok-first_with-2.ensures.value ∙ sym c.as_slice-2.ensures.value)))

pub returns-clause-err : goal.returns-clause-err
returns-clause-err g c =
    let names = map (λ (f : Bor (List ℕ)). f.now) in
    stuck_then _ _ (g.T.Tree.faults c.args.tree.now) (g.T.Tree.faults c.first_with.new.tree) _ c.in-Err-first_with.stuck
    (file_asked c.args.path.now c.args.current.now (names c.in-Ok.folders.items) (names c.as_slice-2.result.now) c.in-Ok-first_with.top c.in-Ok.ensures (ap names c.as_slice-2.ensures.value ∙ c.in-Ok-counted_folders.ensures))
    c.in-Ok-first_with.ensures.ok.0 c.in-Err-first_with.ensures.err
