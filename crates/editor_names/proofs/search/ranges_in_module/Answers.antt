use Rattle.std.proofs.Common.{◌≡◌, ◌∙◌, ap, ap₂, sym}
use Rattle.std.specs.Prelude.{◌&&◌}
use Rattle.open_files.specs.OpenTexts.{with_open}
use Rattle.editor_names.specs.Views.{query_seen}
use Rattle.editor_names.proofs.SearchLemmas.{module_searched}
use Rattle.editor_names.proofs.search.ranges_in_module.Goals as goal
use Rattle.editor_names.proofs.search.ranges_in_module.Goals.{then-candidate, else-candidate}

pub returns : goal.returns
returns g c =
    let documents = c.args.documents.now in
    let one = c.in-Some.candidate in
    let found = c.in_ok-found.found in
    let files = with_open c.new-files.result.documents.now (g.T.Tree.files c.new-files.result.tree) in
    let later = with_open c.modules_in.new.tree.documents.now (g.T.Tree.files c.modules_in.new.tree.tree) in
    let both : c.if-candidate.result ≡ (one.is_whole && found.is_whole) = elim c.if-candidate.branch [ then-candidate w ↦ w.result-is ∙ ap (λ b. b && found.is_whole) (sym w.if-candidate.true) | else-candidate w ↦ w.result-is ∙ w.if-candidate.false ∙ ap (λ b. b && found.is_whole) (sym w.if-candidate.false) ] in
    module_searched (query_seen c.args.query) documents (g.T.Tree.files c.args.tree) c.args.folder.now files later c.in_ok-modules.modules.items c.pop.new.self.items one c.as_slice-names.result.now found c.if-candidate.result
    (ap₂ (λ d t. with_open d (g.T.Tree.files t)) c.new-files.ensures.documents c.new-files.ensures.tree) c.in_ok-modules.ensures.unchanged.0 c.in-Some.ensures.items c.in_ok-modules.ensures.are c.as_slice-names.ensures.value c.in_ok-found.ensures.are both
