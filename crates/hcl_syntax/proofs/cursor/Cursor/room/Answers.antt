use Rattle.std.proofs.Common.{arith, length-drop, drop, length, ap, ◌≤◌}
use Rattle.hcl_grammar.specs.Classes.{lookaheads_from}
use Rattle.hcl_syntax.proofs.LookaheadLemmas.{length-lookaheads}
use Rattle.hcl_syntax.proofs.cursor.Cursor.room.Goals as goal

pub returns : goal.returns
returns c =
    let few : length (lookaheads_from c.self.inside.next (drop c.self.inside.next c.self.inside.tokens.now.tokens)) ≤ length (drop c.self.inside.next c.self.inside.tokens.now.tokens) = length-lookaheads _ _ in
    omega (arith, few, ap (λ s. length s.left) c.self.view_is, c.len-count.ensures.len, c.len-count.type_inv, length-drop c.self.inside.next c.self.inside.tokens.now.tokens)
