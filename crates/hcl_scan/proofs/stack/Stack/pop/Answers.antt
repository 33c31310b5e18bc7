use Rattle.std.proofs.Common.{◌≡◌, ◌-◌, ◌+◌, List, drop, sym, ap, ◌∙◌, arith}
use Rattle.hcl_scan.specs.declared.stack.Opened.{Opened}
use Rattle.hcl_scan.proofs.ReadingLemmas.{closes_top, top_first}
use Rattle.hcl_scan.proofs.stack.Stack.pop.Goals as goal

pub invariant_of-self : goal.invariant_of-self
invariant_of-self c =
    let n = c.self.inside.room.now.depth - 1 in
    let one : n + 1 ≡ c.self.inside.room.now.depth = omega (arith, c.if-self-eq0.false) in
    closes_top c.self.inside.room.now.opened c.self.inside.room.now.depth n c.self.inside.reading c.get-top.result one (c.get-top.ensures c.get-top.result) c.self.invariant

pub returns-clause-popped : goal.returns-clause-popped
returns-clause-popped c =
    let n = c.self.inside.room.now.depth - 1 in
    let one : n + 1 ≡ c.self.inside.room.now.depth = omega (arith, c.if-self-eq0.false) in
    sym c.self.view_is ∙ top_first c.self.inside.room.now.opened c.self.inside.room.now.depth n c.self.inside.reading c.get-top.result one (c.get-top.ensures c.get-top.result) c.self.invariant

pub returns-clause-rest : goal.returns-clause-rest
returns-clause-rest c =
    let n = c.self.inside.room.now.depth - 1 in
    let one : n + 1 ≡ c.self.inside.room.now.depth = omega (arith, c.if-self-eq0.false) in
    let top = top_first c.self.inside.room.now.opened c.self.inside.room.now.depth n c.self.inside.reading c.get-top.result one (c.get-top.ensures c.get-top.result) c.self.invariant in
    ap (λ (l : List Opened). drop 1 l) (sym top ∙ c.self.view_is)
