use Rattle.std.proofs.Common.{◌≡◌, ◌≤◌, ◌+◌, ◌++◌, ℕ, List, Option, false, replicate}
use Rattle.hcl_layout.specs.Inner.Out.{Out}
use Rattle.hcl_layout.proofs.writer.push_blanks.Given as goal

abbrev pub invariant-loop : goal.invariant-loop
invariant-loop g l = record {
  fresh : g.W.ByteSink.failed l.to ≡ false;
  within : l.counter ≤ l.gap;
  out : (base : Option (List ℕ)) (front : List ℕ) → Out base (g.W.ByteSink.taken l.initial.to) l.initial.buffer front → Out base (g.W.ByteSink.taken l.to) l.buffer (front ++ replicate l.counter 32);
  count : l.buffer.sent + l.buffer.len ≡ l.initial.buffer.sent + l.initial.buffer.len + l.counter;
  flushes : g.W.ByteSink.flushes l.to ≡ g.W.ByteSink.flushes l.initial.to;
}
