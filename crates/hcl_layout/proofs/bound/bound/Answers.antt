use Rattle.std.proofs.Common.{◌≡◌, ◌∙◌, ◌+◌, [], arith, ap, drop}
use Rattle.std.proofs.Math.ListN.{drop_of_length-le}
use Rattle.hcl_layout.specs.Inner.Rooms.{no_extent, room_taken, with_lines}
use Rattle.hcl_layout.specs.Lines.{lines}
use Rattle.hcl_layout.specs.declared.bound.Extent.{Extent}
use Rattle.hcl_layout.proofs.BoundLemmas.{print_within}
use Rattle.hcl_layout.proofs.bound.bound.Goals as goal

pub returns : goal.returns
returns c =
    let ts = c.args.tokens.now.tokens in
    let i = c.loop-at.invariant in
    let rest : drop c.loop-at.at ts ≡ [] = drop_of_length-le ts (omega (arith, c.loop-at-test.false, c.len-count.ensures.len)) in
    let all : with_lines 0 (lines ts) no_extent ≡ c.loop-at.extent = i.same ∙ ap (λ l. with_lines c.loop-at.depth (lines l) c.loop-at.extent) rest in
    omega (
      arith,
      print_within ts c.requires.balanced c.len-count.ensures.bounded.disjoint,
      ap (λ (e : Extent). e.passed + room_taken e) all,
      c.len_bound.ensures.bound,
    )
