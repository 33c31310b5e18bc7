use Rattle.std.proofs.Common.{◌≡◌, ◌∙◌, ◌++◌, List, ap, map, subst}
use Rattle.hcl_grammar.specs.Numbered.{number_tokens}
use Rattle.hcl_grammar.specs.declared.item.Item.{Item}
use Rattle.hcl_tokens.specs.Scanned.{Scanned}
use Rattle.hcl_tokens.specs.Scans.{Scans}
use Rattle.tf_names.specs.Names.{declared_by_items, name_references, occurrence_of, occurrences}
use Rattle.tf_names.specs.Views.{occurrence_seen}
use Rattle.tf_names.specs.declared.occurrence.Occurrence.{Occurrence as OccurrenceOf}
use Rattle.tf_names.proofs.PlacedLemmas.{found_placed}
use Rattle.tf_names.proofs.occurrences.occurrences_of.Goals as goal

pub returns-clause-found : goal.returns-clause-found
returns-clause-found c =
    let s = c.args.accepted.now in
    let references = map (occurrence_of s.tokens) (name_references (number_tokens s.tokens)) in
    c.in_ok-push_references.ensures
    ∙ ap (λ l. l ++ references) c.in_ok-push_declarations.ensures
    ∙ ap (λ (l : List OccurrenceOf). map occurrence_seen l ++ declared_by_items s.tokens c.in_ok-items.items ++ references) c.new-found.ensures.items
    ∙ ap (λ (is : List Item). declared_by_items s.tokens is ++ references) c.in_ok-items.ensures

pub returns-clause-placed : goal.returns-clause-placed
returns-clause-placed c =
    let s = c.args.accepted.now in
    let references = map (occurrence_of s.tokens) (name_references (number_tokens s.tokens)) in
    let found : map occurrence_seen c.push_references.new.found.items ≡ occurrences s =
    c.in_ok-push_references.ensures
    ∙ ap (λ l. l ++ references) c.in_ok-push_declarations.ensures
    ∙ ap (λ (l : List OccurrenceOf). map occurrence_seen l ++ declared_by_items s.tokens c.in_ok-items.items ++ references) c.new-found.ensures.items
    ∙ ap (λ (is : List Item). declared_by_items s.tokens is ++ references) c.in_ok-items.ensures in
    let scanned : Scans s.text s.tokens = subst (λ (t : Scanned). Scans t.text t.tokens) c.tokens-tokens.ensures.tokens c.source-source.ensures.scanned in
    found_placed s c.push_references.new.found.items scanned found
