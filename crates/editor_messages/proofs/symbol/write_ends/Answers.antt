use Rattle.std.proofs.Common.{◌≡◌, ◌∙◌, ◌-◌, ap, arith, length, sym, take, vec_len}
use Rattle.std.specs.Prelude.{Some, slice_get}
use Rattle.editor_messages.proofs.NestingLemmas.{closes_one}
use Rattle.editor_messages.proofs.symbol.write_ends.Goals as goal

pub loop-last-preserved : goal.loop-last-preserved
loop-last-preserved c =
    let v = c.loop-last.levels in
    let e : slice_get v.items (length v.items - 1) ≡ Some c.in-Some.last.now = sym (c.in-Some.ensures.value ∙ ap (λ ls. slice_get ls (length ls - 1)) c.deref.ensures.value) in
    let count : vec_len v ≡ length v.items = omega (arith, v.ok.0) in
    closes_one c.args.level c.args.levels.now.items v.items c.args.writer.now c.loop-last.writer c.loop-last.invariant c.in-Some.last.now c.write_parts.new.writer c.pop.new.self.items
    e c.if-last-level.false c.in_ok-write_parts.ensures (c.pop.ensures.rest ∙ ap (λ n. take (n - 1) v.items) count)
