use Rattle.std.proofs.Common.{◌∙◌, ◌/◌, ◌<◌, ◌≤◌, ap, arith, length, subst, sym}
use Rattle.std.proofs.lemmas.List.{get_or_read}
use Rattle.text_places.specs.Places.{walk_start, walk_to}
use Rattle.text_places.specs.Indexes.{IndexedText}
use Rattle.text_places.proofs.IndexLemmas.{goes_to}
use Rattle.text_places.proofs.place_index.PlaceIndex.place.Goals as goal

pub go_on-requires-clause-walk : goal.go_on-requires-clause-walk
go_on-requires-clause-walk c =
    let p = c.self.inside in
    let within : c.args.offset ≤ length p.text.now = subst (λ (t : IndexedText). c.args.offset ≤ length t.text) (sym c.self.view_is) c.requires in
    let near : c.args.offset / 64 < length p.walks.items = omega (arith, c.self.invariant.1, p.walks.ok.0) in
    let goes = goes_to p.units p.text.now p.walks.items c.index-before.result.now c.args.offset c.self.invariant.0 (omega (arith, c.self.invariant.1, p.walks.ok.0)) within
    (sym (get_or_read p.walks.items (c.args.offset / 64) c.index-before.result.now near c.index-before.ensures walk_start)) in
    goes.walk ∙ ap (λ t. walk_to p.units t c.index-before.result.now.offset) (sym c.as_bytes.ensures.value)

pub go_on-requires-clause-order : goal.go_on-requires-clause-order
go_on-requires-clause-order c =
    let p = c.self.inside in
    let within : c.args.offset ≤ length p.text.now = subst (λ (t : IndexedText). c.args.offset ≤ length t.text) (sym c.self.view_is) c.requires in
    let near : c.args.offset / 64 < length p.walks.items = omega (arith, c.self.invariant.1, p.walks.ok.0) in
    let goes = goes_to p.units p.text.now p.walks.items c.index-before.result.now c.args.offset c.self.invariant.0 (omega (arith, c.self.invariant.1, p.walks.ok.0)) within
    (sym (get_or_read p.walks.items (c.args.offset / 64) c.index-before.result.now near c.index-before.ensures walk_start)) in
    goes.order
