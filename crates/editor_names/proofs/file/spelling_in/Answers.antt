use Rattle.std.proofs.Common.{◌∙◌, List, ap}
use Rattle.std.specs.List.{list_any}
use Rattle.tf_names.specs.Views.{occurrence_seen}
use Rattle.tf_names.specs.declared.occurrence.Occurrence.{Occurrence}
use Rattle.editor_names.specs.Names.{declarations_of, is_wanted}
use Rattle.editor_names.specs.Views.{query_seen}
use Rattle.editor_names.proofs.NameLemmas.{any_seen}
use Rattle.editor_names.proofs.file.spelling_in.Goals as goal

pub returns-clause-declares : goal.returns-clause-declares
returns-clause-declares c =
    let is = is_wanted (declarations_of (query_seen c.args.query)) in
    c.is_declared_among.ensures ∙ ap (λ (os : List Occurrence). list_any (λ o. is (occurrence_seen o)) os) c.as_slice-2.ensures.value
    ∙ any_seen is c.in_ok-occurrences.occurrences.items ∙ ap (list_any is) c.in_ok-occurrences.ensures.found
