use Rattle.std.proofs.Common.{◌≡◌, ◌≤◌, ◌+◌, ◌-◌, ◌*◌, ◌^◌, ◌++◌, ℕ, List, false, length}
use Rattle.hcl_layout.specs.Inner.Laid.{IsAt, Stops, gaps_after, left_after, left_on}
use Rattle.hcl_layout.specs.Inner.Out.{Lies, Out, stretch_text}
use Rattle.hcl_layout.specs.Print.{print}
use Rattle.hcl_layout.specs.declared.lines.Columns.TheVariants.{Ahead}
use Rattle.hcl_layout.proofs.writer.emit.Given as goal

abbrev pub invariant-loop-line : goal.invariant-loop-line
invariant-loop-line g l = record {
  at : IsAt l.tokens.tokens l.lines;
  ahead : l.lines.columns ≡ Ahead;
  fresh : g.W.ByteSink.failed l.to ≡ false;
  out : (front : List ℕ) × (print l.tokens.tokens ≡ front ++ (stretch_text l.source l.waiting ++ left_after l.tokens.tokens l.lines)) × Out (g.W.ByteSink.taken l.initial.to) (g.W.ByteSink.taken l.to) l.buffer front;
  lies : Lies l.source l.waiting;
  small : l.buffer.sent + l.buffer.len + l.waiting.gap + (l.waiting.end - l.waiting.start) ≤ l.lines.next * 2 ^ 35;
  flushes : g.W.ByteSink.flushes l.to ≡ g.W.ByteSink.flushes l.initial.to;
}

abbrev pub decreases-loop-line : goal.decreases-loop-line
decreases-loop-line g l = length l.tokens.tokens - l.lines.next

abbrev pub invariant-loop-number : goal.invariant-loop-number
invariant-loop-number g l = record {
  stops : Stops l.line l.number l.stop;
  order : l.line.first ≤ l.number;
  fresh : g.W.ByteSink.failed l.to ≡ false;
  out : (front : List ℕ) × (print l.tokens.tokens ≡ front ++ (stretch_text l.source l.waiting ++ left_on l.tokens.tokens l.line (gaps_after l.tokens.tokens l.lines) l.number)) × Out (g.W.ByteSink.taken l.fn.to) (g.W.ByteSink.taken l.to) l.buffer front;
  lies : Lies l.source l.waiting;
  small : l.buffer.sent + l.buffer.len + l.waiting.gap + (l.waiting.end - l.waiting.start) ≤ l.number * 2 ^ 35;
  flushes : g.W.ByteSink.flushes l.to ≡ g.W.ByteSink.flushes l.fn.to;
}
