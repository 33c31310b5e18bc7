use Rattle.std.proofs.Common.{◌∙◌, ◌++◌, [], ◌∷◌, ap, append-nil, get_or, subst, sym, take}
use Rattle.std.proofs.lemmas.List.{take_more}
use Rattle.std.proofs.lemmas.List.Concat.{flat_map-append}
use Rattle.json.specs.Tree.{json_tokens}
use Rattle.lint_forms.proofs.AddsLemmas.{Added, added_then}
use Rattle.editor_messages.specs.Inner.Nesting.{folds_tokens}
use Rattle.editor_messages.specs.Outlines.{fold_json}
use Rattle.editor_messages.proofs.fold.write_folds.Goals as goal

pub loop-fold-preserved : goal.loop-fold-preserved
loop-fold-preserved c =
    let w0 = c.args.writer.now in
    let folds = c.args.folds.now in
    let n = c.loop-fold.fold-index in
    let fold = get_or folds n (record { first = 0; last = 0 }) in
    subst (Added w0 c.write_fold.new.writer)
    (sym (ap folds_tokens (take_more folds n _ c.loop-fold-test.true) ∙ flat_map-append (λ f. json_tokens (fold_json f)) (take n folds) (fold ∷ []) ∙ ap (λ l. folds_tokens (take n folds) ++ l) (append-nil (json_tokens (fold_json fold)))))
    (added_then w0 c.loop-fold.writer c.write_fold.new.writer _ _ c.loop-fold.invariant c.in_ok-write_fold.ensures)
