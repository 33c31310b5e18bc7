use Rattle.std.proofs.Common.{◌≡◌, ℕ, ◌+◌, List, ◌++◌, take, drop, Option, Some, None, ap, sym, ◌∙◌, arith, append_assoc}
use Rattle.std.proofs.Math.Seq.{take-add}
use Rattle.std.specs.Io.KnownBytes.{Appends}
use Rattle.hcl_source.proofs.device.write_fully.Goals as goal

-- two writes in a row append both texts
both_append : (a b c : Option (List ℕ)) (bytes rest : List ℕ) (d n : ℕ) → Appends a b (take d bytes) → rest ≡ drop d bytes → Appends b c (take n rest) → Appends a c (take (d + n) bytes)
both_append None b c bytes rest d n first is second = tt
both_append (Some xs) None c bytes rest d n first is second = absurd first
both_append (Some xs) (Some ys) None bytes rest d n first is second = absurd second
both_append (Some xs) (Some ys) (Some zs) bytes rest d n first is second =
    second ∙ (λ i. first i ++ take n (is i)) ∙ append_assoc xs (take d bytes) (take n (drop d bytes)) ∙ ap (λ l. xs ++ l) (sym (take-add d n bytes))

pub loop-done-preserved : goal.loop-done-preserved
loop-done-preserved g c = record {
  within = omega (arith, c.in-Ok.ensures.bound, c.split_at.ensures.back_len);
  bytes = both_append _ (g.W.ByteSink.taken c.loop-done.sink) _ c.args.bytes.now c.split_at.result.1.now c.loop-done.done c.in-Ok.n c.loop-done.invariant.bytes c.split_at.ensures.back c.in-Ok.ensures.bytes;
  failed = c.in-Ok.ensures.failed;
  pending = λ _. c.in-Ok.ensures.pending (c.in-Ok.ensures.some (omega (arith, c.split_at.ensures.back_len, c.loop-done-test.true)));
  flushes = c.in-Ok.ensures.flushes ∙ c.loop-done.invariant.flushes;
}
