use Rattle.std.proofs.Common.{◌∙◌, ◌-◌, sym, arith}
use Rattle.hcl_tokens.specs.Scanned.{lexeme}
use Rattle.hcl_syntax.proofs.SoughtLemmas.{close_here, close_past, no_close}
use Rattle.hcl_syntax.proofs.words.block_end.Goals as goal

pub returns-then-is_brace_close-clause-is : goal.returns-then-is_brace_close-clause-is
returns-then-is_brace_close-clause-is c =
    close_here c.args.tokens.now.tokens (c.loop-end.end - 1) c.args.to (lexeme c.get-last.result) c.get-last.ensures.token (omega (arith, c.loop-end.invariant.within)) c.loop-end.end c.args.from (omega arith) (omega arith)
    (sym c.is_brace_close.ensures ∙ c.if-is_brace_close.true) c.loop-end.invariant

pub loop-end-preserved : goal.loop-end-preserved
loop-end-preserved c =
    close_past c.args.tokens.now.tokens (c.loop-end.end - 1) c.args.to (lexeme c.get-last.result) c.get-last.ensures.token (omega (arith, c.loop-end.invariant.within)) c.loop-end.end (omega arith)
    (sym c.is_brace_close.ensures ∙ c.if-is_brace_close.false) c.loop-end.invariant

pub returns-clause-is : goal.returns-clause-is
returns-clause-is c = sym (no_close c.args.tokens.now.tokens c.args.from c.loop-end.end c.args.to c.loop-end-test.false c.requires.ordered c.loop-end.invariant)
