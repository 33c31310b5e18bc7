use Rattle.std.proofs.Common.{rules, arith}
use Rattle.hcl_syntax.proofs.CursorStepLemmas.{looks, reading, onward, dropping, done}
use Rattle.hcl_syntax.proofs.LookaheadLemmas.{past_newlines-again}
use Rattle.hcl_syntax.proofs.cursor.Cursor.start.Goals as goal

pub loop-token-preserved : goal.loop-token-preserved
loop-token-preserved c = record {
  leads = λ count. onward (c.loop-token.invariant.leads count) (reading (looks _ _ _ _ _ c.look.ensures.left c.in_ok-token.ensures.found c.bump.ensures.left) (search rules) done);
  shorter = omega (arith, c.loop-token.invariant.shorter, c.look.ensures.shorter, c.bump.ensures.shorter);
}

pub returns-in_err-token-clause-leads : goal.returns-in_err-token-clause-leads
returns-in_err-token-clause-leads c = λ count. onward (c.loop-token.invariant.leads count) (dropping c.look.ensures.left)

pub returns-in_default : goal.returns-in_default
returns-in_default c = record {
  leads = λ count. onward (c.loop-token.invariant.leads count) (dropping c.look.ensures.left);
  left = past_newlines-again _ _ _ c.look.ensures.left;
  found = c.in_ok-token.ensures.found;
  plain = search rules;
  shorter = omega (arith, c.loop-token.invariant.shorter, c.look.ensures.shorter);
}
