use Rattle.std.proofs.Common.{arith, ap, length}
use Rattle.hcl_syntax.specs.Inner.Cursors.{past_newlines}
use Rattle.hcl_syntax.proofs.LookaheadLemmas.{length-past_newlines}
use Rattle.hcl_syntax.proofs.cursor.Cursor.look.Goals as goal

pub returns-clause-shorter : goal.returns-clause-shorter
returns-clause-shorter c = omega (arith, ap length c.find-next.ensures.left, ap (λ s. length (past_newlines c.args.newlines s.left)) c.self.view_is, length-past_newlines c.args.newlines c.args.self.now.left)
