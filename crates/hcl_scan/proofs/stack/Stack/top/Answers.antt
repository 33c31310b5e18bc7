use Rattle.std.proofs.Common.{◌≡◌, ◌-◌, ◌+◌, sym, ◌∙◌, arith}
use Rattle.hcl_scan.specs.Inner.Readings.{stack_of}
use Rattle.hcl_scan.proofs.ReadingLemmas.{top_first, top_dropped}
use Rattle.hcl_scan.proofs.stack.Stack.top.Goals as goal

pub returns : goal.returns
returns c =
    let opened = c.self.inside.room.now.opened in
    let n = c.self.inside.room.now.depth - 1 in
    let one : n + 1 ≡ c.self.inside.room.now.depth = omega (arith, c.if-self-eq0.false) in
    let top = top_first opened c.self.inside.room.now.depth n c.self.inside.reading c.get.result one (c.get.ensures c.get.result) c.self.invariant in
    top_dropped c.args.self.now (stack_of n opened) c.get.result (sym c.self.view_is ∙ top)
