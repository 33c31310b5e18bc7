use Rattle.std.proofs.Common.{◌∙◌, ap, rules}
use Rattle.std.proofs.lemmas.Fn.{filter_same}
use Rattle.open_files.proofs.OpenLemmas.{without_seen}
use Rattle.open_files.specs.OpenTexts.{without}
use Rattle.open_files.specs.Views.{open_seen}
use Rattle.open_files.proofs.documents.Documents.remove.Goals as goal

pub returns : goal.returns
returns c =
    ap open_seen (filter_same _ _ _ (λ x b f' k. search rules) _ _ c.retain.ensures.filtered)
    ∙ without_seen c.args.uri.now c.self.inside.files.items
    ∙ ap (without c.args.uri.now) c.self.view_is
