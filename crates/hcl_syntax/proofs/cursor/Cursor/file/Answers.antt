use Rattle.std.proofs.Common.{rules, arith, refl, [], ap, ◌-◌}
use Rattle.hcl_syntax.specs.Inner.Parsing.{bodies, body_symbols}
use Rattle.hcl_syntax.proofs.CursorStepLemmas.{looks, onward, beside, done, renamed, bodies-newline, bodies-item, bodies-close, bodies-refuse, bodies-end, bodies-done, bodies-up, whole, whole-fault, whole-quits, refuse-close, kept-refusal}
use Rattle.hcl_syntax.proofs.cursor.Cursor.file.Goals as goal

pub loop-token-preserved : goal.loop-token-preserved
loop-token-preserved c = record {
  leads = onward c.loop-token.invariant.leads (onward (bodies-close {a = tt {0}} c.loop-token.levels c.if-levels-eq0-2.false (looks _ _ _ _ _ c.look.ensures.left c.in-Some.ensures.found c.bump-in-BraceClose.ensures.left) c.in-BraceClose.is) (beside (bodies (c.loop-token.levels - 1)) c.in_ok-end_of_line-in-BraceClose.ensures.parses));
  shorter = omega (arith, c.in_ok-end_of_line-in-BraceClose.ensures.shorter);
  room = c.loop-token.invariant.room;
}

pub loop-token-preserved-in-Newline : goal.loop-token-preserved-in-Newline
loop-token-preserved-in-Newline c = record {
  leads = onward c.loop-token.invariant.leads (bodies-newline c.loop-token.levels (looks _ _ _ _ _ c.look.ensures.left c.in-Some.ensures.found c.bump.ensures.left) c.in-Newline.is);
  shorter = omega arith;
  room = c.loop-token.invariant.room;
}

pub loop-token-preserved-then-branch : goal.loop-token-preserved-then-branch
loop-token-preserved-then-branch c = record {
  leads = renamed (bodies-up c.loop-token.levels) (onward c.loop-token.invariant.leads (onward (bodies-item {a = tt {0}} c.loop-token.levels _ (looks _ _ _ _ _ c.look.ensures.left c.in-Some.ensures.found c.bump-in-Ident.ensures.left) c.in-Ident.is) (beside (bodies c.loop-token.levels) (onward (renamed (ap (λ b. body_symbols b) c.if-branch.true) c.in_ok-item-in-Ident.ensures.leads) (done {a = tt {0}})))));
  shorter = omega (arith, c.in_ok-item-in-Ident.ensures.shorter);
  room = c.loop-token.invariant.room;
}

pub loop-token-preserved-else-branch : goal.loop-token-preserved-else-branch
loop-token-preserved-else-branch c = record {
  leads = onward c.loop-token.invariant.leads (onward (bodies-item {a = tt {0}} c.loop-token.levels _ (looks _ _ _ _ _ c.look.ensures.left c.in-Some.ensures.found c.bump-in-Ident.ensures.left) c.in-Ident.is) (beside (bodies c.loop-token.levels) (onward (renamed (ap (λ b. body_symbols b) c.if-branch.false) c.in_ok-item-in-Ident.ensures.leads) (done {a = tt {0}}))));
  shorter = omega (arith, c.in_ok-item-in-Ident.ensures.shorter);
  room = c.loop-token.invariant.room;
}

pub returns-else-levels-eq0 : goal.returns-else-levels-eq0
returns-else-levels-eq0 c = whole-fault (kept-refusal c.keep_refusal.ensures.refusal (onward c.loop-token.invariant.leads (bodies-end {A = Unit {0}} c.loop-token.levels {ys = []} c.if-levels-eq0.false c.look.ensures.left c.in_default.ensures.found)))

pub returns-then-levels-eq0 : goal.returns-then-levels-eq0
returns-then-levels-eq0 c = whole (onward c.loop-token.invariant.leads (bodies-done {a = tt {0}} c.loop-token.levels c.if-levels-eq0.true c.look.ensures.left c.in_default.ensures.found)) c.in_default.ensures.found

pub returns-then-levels-eq0-2 : goal.returns-then-levels-eq0-2
returns-then-levels-eq0-2 c = whole-fault {new = c.look.new.self.left} (kept-refusal c.keep_refusal-then-levels-eq0-2.ensures.refusal (onward c.loop-token.invariant.leads (refuse-close {A = Unit {0}} c.loop-token.levels {ys = []} {new = c.look.new.self.left} c.if-levels-eq0-2.true (looks _ _ _ _ _ c.look.ensures.left c.in-Some.ensures.found refl) c.in-BraceClose.is)))

pub returns-in_default-class : goal.returns-in_default-class
returns-in_default-class c = whole-fault (kept-refusal c.keep_refusal-in_default-class.ensures.refusal (onward c.loop-token.invariant.leads (bodies-refuse {A = Unit {0}} c.loop-token.levels {ys = []} {new = c.look.new.self.left} (looks _ _ _ _ _ c.look.ensures.left c.in-Some.ensures.found refl) (search rules) (search rules))))

pub returns-in_err-end_of_line-in-BraceClose : goal.returns-in_err-end_of_line-in-BraceClose
returns-in_err-end_of_line-in-BraceClose c = whole-quits _ c.from_residual-in_err-end_of_line-in-BraceClose.ensures.1 (onward c.loop-token.invariant.leads (onward (bodies-close {a = tt {0}} c.loop-token.levels c.if-levels-eq0-2.false (looks _ _ _ _ _ c.look.ensures.left c.in-Some.ensures.found c.bump-in-BraceClose.ensures.left) c.in-BraceClose.is) (beside (bodies (c.loop-token.levels - 1)) c.in_err-end_of_line-in-BraceClose.ensures.parses)))

pub returns-in_err-item-in-Ident : goal.returns-in_err-item-in-Ident
returns-in_err-item-in-Ident c = whole-quits _ c.from_residual.ensures.1 (onward c.loop-token.invariant.leads (onward (bodies-item {a = tt {0}} c.loop-token.levels _ (looks _ _ _ _ _ c.look.ensures.left c.in-Some.ensures.found c.bump-in-Ident.ensures.left) c.in-Ident.is) (beside (bodies c.loop-token.levels) c.in_err-item-in-Ident.ensures.leads)))
