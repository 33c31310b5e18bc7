use Rattle.std.proofs.Common.{◌∙◌, ◌+◌, ◌-◌, ◌<◌, ◌≡◌, ◌∷◌, ◌++◌, [], List, ℕ, ap, length, refl, replicate, set, subst, sym, arith}
use Rattle.hcl_syntax.specs.Inner.Segments.{AreNewlinesAhead}
use Rattle.hcl_syntax.proofs.SegmentEndLemmas.{IsFilled, filled, fills, found, last_first, starts_filled}
use Rattle.hcl_syntax.proofs.segment_end.newlines.Goals as goal

pub loop-next-init : goal.loop-next-init
loop-next-init c =
    let ts = c.args.tokens.now.tokens in
    let count = c.token_count-count.result in
    let made : c.in_ok-ends.ends.items ≡ replicate (count + 1) 0 = c.in_ok-ends.ensures.items_if_clones_equal (λ y same. same) in
    let all : count ≡ c.len-next.result = c.token_count-count.ensures.is ∙ sym c.len-next.ensures.len in
    let none : count ∷ [] ≡ c.new-rest.result.items ++ count ∷ [] = ap (λ (r : List ℕ). r ++ count ∷ []) (sym c.new-rest.ensures.items) in
    let start = subst (λ k. IsFilled ts c.in_ok-ends.ends.items (count ∷ []) k) all (starts_filled ts count c.in_ok-ends.ends.items c.token_count-count.ensures.is made) in
    subst (λ (r : List ℕ). IsFilled ts c.in_ok-ends.ends.items r c.len-next.result) none start

pub loop-next-preserved : goal.loop-next-preserved
loop-next-preserved c =
    let ts = c.args.tokens.now.tokens in
    let n : ℕ = c.loop-next.next - 1 in
    let less : n < length ts = omega (arith, c.loop-next.invariant.within, c.loop-next-test.true) in
    let at : c.loop-next.next ≡ n + 1 = omega (arith, c.loop-next-test.true) in
    let here = found ts n less in
    let old : List ℕ = c.loop-next.rest.items ++ c.loop-next.top ∷ [] in
    let new : List ℕ = c.pass.new.rest.items ++ c.in_ok-top.top ∷ [] in
    let ahead : AreNewlinesAhead ts old (n + 1) = subst (λ k. AreNewlinesAhead ts old k) at c.loop-next.invariant.newlines_ahead in
    fills ts c.loop-next.ends.items (set c.loop-next.ends.items c.loop-next.next c.loop-next.top) old new c.loop-next.next n c.loop-next.top at less
    (c.in_ok-top.ensures ts here.0 c.token_count-count.ensures.is here.1 (c.kind.ensures here.0 here.1) ahead) (sym (last_first c.loop-next.rest.items c.loop-next.top (length ts)))
    (ap (λ k. set c.loop-next.ends.items k c.loop-next.top) at) c.loop-next.invariant

pub returns : goal.returns
returns c =
    filled c.args.tokens.now.tokens c.loop-next.ends.items (set c.loop-next.ends.items 0 c.loop-next.top) (c.loop-next.rest.items ++ c.loop-next.top ∷ []) c.loop-next.next c.loop-next.top c.loop-next-test.false
    (sym (last_first c.loop-next.rest.items c.loop-next.top (length c.args.tokens.now.tokens))) refl c.loop-next.invariant
