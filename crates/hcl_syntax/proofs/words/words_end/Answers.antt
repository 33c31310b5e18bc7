use Rattle.std.proofs.Common.{◌∙◌, ◌-◌, sym, arith}
use Rattle.hcl_tokens.specs.Scanned.{lexeme}
use Rattle.hcl_syntax.proofs.SoughtLemmas.{word_here, word_past, no_word}
use Rattle.hcl_syntax.proofs.words.words_end.Goals as goal

pub returns-then-not-is_comment : goal.returns-then-not-is_comment
returns-then-not-is_comment c =
    word_here c.args.tokens.now.tokens (c.loop-end.end - 1) c.args.to (lexeme c.get-last.result) c.get-last.ensures.token (omega (arith, c.loop-end.invariant.within)) c.loop-end.end c.args.from (omega arith) (omega arith)
    (sym c.is_comment.ensures ∙ c.if-not-is_comment.true) c.loop-end.invariant

pub loop-end-preserved : goal.loop-end-preserved
loop-end-preserved c =
    word_past c.args.tokens.now.tokens (c.loop-end.end - 1) c.args.to (lexeme c.get-last.result) c.get-last.ensures.token (omega (arith, c.loop-end.invariant.within)) c.loop-end.end (omega arith)
    (sym c.is_comment.ensures ∙ c.if-not-is_comment.false) c.loop-end.invariant

pub returns : goal.returns
returns c = sym (no_word c.args.tokens.now.tokens c.args.from c.loop-end.end c.args.to c.loop-end-test.false c.requires.ordered c.loop-end.invariant)
