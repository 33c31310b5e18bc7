use Rattle.std.proofs.Common.{◌+◌, drop, arith, refl, sym, ap, ◌∙◌, length-drop}
use Rattle.hcl_tokens.specs.Spelling.{element_len}
use Rattle.hcl_scan.proofs.ElementLemmas.{next_element, next_ordinary}
use Rattle.hcl_scan.proofs.LiteralLemmas.{element_is, IsPart}
use Rattle.hcl_scan.proofs.literal.literal_len.Goals as goal

pub loop-len-init : goal.loop-len-init
loop-len-init c = record {
  within = c.past_ordinary-len.ensures.within;
  elements = next_ordinary c.args.quoted 0 c.past_ordinary-len.result c.args.seen.now refl c.past_ordinary-len.ensures.place;
}

pub overflow_add-len-in-Some : goal.overflow_add-len-in-Some
overflow_add-len-in-Some c =
    let some : IsPart (drop c.loop-len.len c.args.seen.now) c.in-Some.n = element_is c.args.quoted (drop c.loop-len.len c.args.seen.now) c.in-Some.n (sym (c.in-Some.ensures ∙ ap (element_len c.args.quoted) c.split_at.ensures.back)) in
    omega (arith, some.1, length-drop c.loop-len.len c.args.seen.now)

pub past_ordinary-len-requires-in-Some : goal.past_ordinary-len-requires-in-Some
past_ordinary-len-requires-in-Some c =
    let some : IsPart (drop c.loop-len.len c.args.seen.now) c.in-Some.n = element_is c.args.quoted (drop c.loop-len.len c.args.seen.now) c.in-Some.n (sym (c.in-Some.ensures ∙ ap (element_len c.args.quoted) c.split_at.ensures.back)) in
    omega (arith, some.1, length-drop c.loop-len.len c.args.seen.now, c.loop-len-test.true)

pub loop-len-smaller : goal.loop-len-smaller
loop-len-smaller c =
    let some : IsPart (drop c.loop-len.len c.args.seen.now) c.in-Some.n = element_is c.args.quoted (drop c.loop-len.len c.args.seen.now) c.in-Some.n (sym (c.in-Some.ensures ∙ ap (element_len c.args.quoted) c.split_at.ensures.back)) in
    omega (arith, some.0, some.1, length-drop c.loop-len.len c.args.seen.now, c.loop-len-test.true, c.past_ordinary-len-in-Some.ensures.place, c.past_ordinary-len-in-Some.ensures.within)

pub loop-len-preserved : goal.loop-len-preserved
loop-len-preserved c =
    let is = sym (c.in-Some.ensures ∙ ap (element_len c.args.quoted) c.split_at.ensures.back) in
    let some : IsPart (drop c.loop-len.len c.args.seen.now) c.in-Some.n = element_is c.args.quoted (drop c.loop-len.len c.args.seen.now) c.in-Some.n is in
    let so_far = next_element c.args.quoted c.loop-len.len c.in-Some.n c.args.seen.now c.loop-len.invariant.elements is some.0 some.1 in
    record {
      within = c.past_ordinary-len-in-Some.ensures.within;
      elements = next_ordinary c.args.quoted (c.loop-len.len + c.in-Some.n) c.past_ordinary-len-in-Some.result c.args.seen.now so_far c.past_ordinary-len-in-Some.ensures.place;
    }
