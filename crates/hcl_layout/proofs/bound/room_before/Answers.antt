use Rattle.std.proofs.Common.{◌∙◌, ◌-◌, ap, drop, sym, take}
use Rattle.std.specs.Prelude.{option_map}
use Rattle.hcl_tokens.specs.Scanned.{lexeme}
use Rattle.hcl_layout.specs.Inner.Rooms.{room_before}
use Rattle.hcl_layout.proofs.BoundLemmas.{room_is}
use Rattle.hcl_layout.proofs.bound.room_before.Goals as goal

pub returns-clause-value : goal.returns-clause-value
returns-clause-value c =
    let ts = c.args.tokens.now.tokens in
    let l = c.args.line in
    let n = c.in-Some.number in
    c.saturating_sub.ensures
    ∙ room_is ts l.first l.end n (lexeme c.get-start.result) (lexeme c.get.result) (c.requires.order n c.in-Some.is) (c.requires.there n c.in-Some.is) c.get-start.ensures.token c.get.ensures.token
    ∙ ap (λ x. room_before (take (l.end - l.first) (drop l.first ts)) (option_map (λ k. k - l.first) x)) (sym c.in-Some.is)
