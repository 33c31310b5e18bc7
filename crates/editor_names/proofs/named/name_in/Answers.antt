use Rattle.std.proofs.Common.{◌≡◌, ◌∙◌, List, ap, arith, length, sym}
use Rattle.std.specs.Prelude.{Some, find, option_map}
use Rattle.hcl_tokens.specs.Scanned.{Scanned}
use Rattle.text_places.specs.Indexes.{IndexedText}
use Rattle.text_places.specs.Places.{offset_at}
use Rattle.tf_names.specs.Names.{IsInOrder}
use Rattle.tf_names.specs.Views.{occurrence_seen}
use Rattle.tf_names.specs.declared.occurrence.Occurrence.{Occurrence}
use Rattle.editor_names.specs.Names.{is_at, range_of}
use Rattle.editor_names.proofs.NameLemmas.{found_has, name_found}
use Rattle.editor_names.proofs.named.name_in.Goals as goal

pub returns-in_default : goal.returns-in_default
returns-in_default c =
    let offset = c.offset_at-offset.result in
    let text : c.as_bytes.result.now ≡ c.args.accepted.now.text = c.as_bytes.ensures.value ∙ c.text-text.ensures.value ∙ c.source.ensures.source ∙ ap (λ (s : Scanned). s.text) c.tokens.ensures.tokens in
    name_found c.args.units c.args.place c.args.accepted.now c.in_ok-occurrences.occurrences.items offset _ c.in_ok-occurrences.ensures.found
    (c.offset_at-offset.ensures.offset ∙ ap (λ t. offset_at c.args.units t c.args.place) text)
    (ap (option_map (λ o. o.now)) (sym c.in_default.is) ∙ c.first_at.ensures ∙ ap (λ (os : List Occurrence). find (λ o. is_at offset (occurrence_seen o)) os) c.as_slice.ensures.value)

pub range_of-requires-clause-start : goal.range_of-requires-clause-start
range_of-requires-clause-start c =
    let offset = c.offset_at-offset.result in
    let found = c.in_ok-occurrences.occurrences.items in
    let o = c.in-Some.occurrence.now in
    let text : c.text-text.result.now ≡ c.args.accepted.now.text = c.text-text.ensures.value ∙ c.source.ensures.source ∙ ap (λ (s : Scanned). s.text) c.tokens.ensures.tokens in
    let same : length c.in_ok-places.places.text ≡ length c.args.accepted.now.text = ap (λ (p : IndexedText). length p.text) c.in_ok-places.ensures ∙ ap length text in
    let is : find (λ o. is_at offset (occurrence_seen o)) found ≡ Some o = ap (λ (os : List Occurrence). find (λ o. is_at offset (occurrence_seen o)) os) (sym c.as_slice.ensures.value) ∙ sym c.first_at.ensures ∙ ap (option_map (λ o. o.now)) c.in-Some.is in
    let placed = found_has (λ o. IsInOrder (length c.args.accepted.now.text) (occurrence_seen o)) (λ o. is_at offset (occurrence_seen o)) found o is c.in_ok-occurrences.ensures.placed in
    omega (arith, same, placed.order, placed.within)

pub range_of-requires-clause-end : goal.range_of-requires-clause-end
range_of-requires-clause-end c =
    let offset = c.offset_at-offset.result in
    let found = c.in_ok-occurrences.occurrences.items in
    let o = c.in-Some.occurrence.now in
    let text : c.text-text.result.now ≡ c.args.accepted.now.text = c.text-text.ensures.value ∙ c.source.ensures.source ∙ ap (λ (s : Scanned). s.text) c.tokens.ensures.tokens in
    let same : length c.in_ok-places.places.text ≡ length c.args.accepted.now.text = ap (λ (p : IndexedText). length p.text) c.in_ok-places.ensures ∙ ap length text in
    let is : find (λ o. is_at offset (occurrence_seen o)) found ≡ Some o = ap (λ (os : List Occurrence). find (λ o. is_at offset (occurrence_seen o)) os) (sym c.as_slice.ensures.value) ∙ sym c.first_at.ensures ∙ ap (option_map (λ o. o.now)) c.in-Some.is in
    let placed = found_has (λ o. IsInOrder (length c.args.accepted.now.text) (occurrence_seen o)) (λ o. is_at offset (occurrence_seen o)) found o is c.in_ok-occurrences.ensures.placed in
    omega (arith, same, placed.within)

pub returns : goal.returns
returns c =
    let offset = c.offset_at-offset.result in
    let units = c.args.units in
    let o = occurrence_seen c.in-Some.occurrence.now in
    let text : c.text-text.result.now ≡ c.args.accepted.now.text = c.text-text.ensures.value ∙ c.source.ensures.source ∙ ap (λ (s : Scanned). s.text) c.tokens.ensures.tokens in
    let name = c.in_ok-copy_of.ensures in
    let range = c.range_of.ensures ∙ ap (λ (p : IndexedText). range_of p.units p.text o) c.in_ok-places.ensures ∙ ap (λ t. range_of units t o) text in
    (λ i. Some (record { name = name i; range = range i }))
    ∙ name_found units c.args.place c.args.accepted.now c.in_ok-occurrences.occurrences.items offset (Some c.in-Some.occurrence.now) c.in_ok-occurrences.ensures.found
    (c.offset_at-offset.ensures.offset ∙ ap (λ t. offset_at units t c.args.place) (c.as_bytes.ensures.value ∙ text))
    (ap (option_map (λ o. o.now)) (sym c.in-Some.is) ∙ c.first_at.ensures ∙ ap (λ (os : List Occurrence). find (λ o. is_at offset (occurrence_seen o)) os) c.as_slice.ensures.value)
