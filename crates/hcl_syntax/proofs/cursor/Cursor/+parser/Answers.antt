use Rattle.std.proofs.Common.{rules, arith, subst, refl, [], ◌∷◌, ap, ◌∙◌, ◌≡◌, ◌-◌}
use Rattle.hcl_grammar.specs.declared.expected.Section.TheVariants.{InIf, InElse, InFor}
use Rattle.hcl_grammar.specs.declared.expected.Newlines.TheVariants.{Seen, Dropped}
use Rattle.hcl_grammar.specs.declared.expected.Terminal.TheVariants.{Name, EndParen, EndBracket, EndBrace, EndSequence, EndQuote, EndHeredoc, Separator, FatArrow}
use Rattle.hcl_grammar.specs.Grammar.{◌at◌, row, the, expr, after, after_ident, arg_next, tuple, tuple_item, tuple_next, tuple_if, object, object_item, object_next, object_if, group, separator, parts, names, inside, section_directive, directive}
use Rattle.hcl_syntax.specs.Inner.Parsing.{effect_of_word, pending_choices, follow_symbols}
use Rattle.hcl_syntax.proofs.CursorStepLemmas.{expr-stays, directive-stays, same-token, opening-row, too-deep, closing, effect_of_word-onward, effect_of_word-closing, effect_of_word-inner, end-onward, end-fails, end-quits, looks, reading, vanishing, vanishing-end, refusing, refusing-end, onward, beside, quits, done, begins, alike, args-end, args-else, tuple-end, tuple-else, index-star, index-else, no-token, pending_choices-down, renamed, tuple-for, tuple-listed, tuple-if, tuple-plain, object-if, object-plain, object-for, object-listed, object-passes, item-passes, item-end, item-else, past-reading, past-alike, past-begins, kept-refusal, end-kept-refusal, kept-refusal-end}
use Rattle.hcl_syntax.proofs.cursor.Cursor.+parser.Goals as goal

pub args-returns-then-takes-clause-parses : goal.args-returns-then-takes-clause-parses
args-returns-then-takes-clause-parses n c =
    onward c.loop-directives.invariant.leads (reading c.if-takes.ensures.yes.looks (args-end _ _ c.if-takes.ensures.yes.fits) done)

pub args-returns-in_err-expr-clause-parses : goal.args-returns-in_err-expr-clause-parses
args-returns-in_err-expr-clause-parses n c = quits _ c.from_residual.ensures.1
    (onward c.loop-directives.invariant.leads (begins refl refl (expr-stays _) (λ t e. args-else _ _ (c.if-takes.ensures.no.unfit t e)) c.if-takes.ensures.no.shows (beside (arg_next at Dropped ∷ []) c.in_err-expr.ensures.parses)))

pub args-returns-in_default-clause-parses : goal.args-returns-in_default-clause-parses
args-returns-in_default-clause-parses n c = kept-refusal-end c.keep_refusal.ensures.refusal
    (onward c.loop-directives.invariant.leads (begins refl refl (expr-stays _) (λ t e. args-else _ _ (c.if-takes.ensures.no.unfit t e)) c.if-takes.ensures.no.shows (onward (beside (arg_next at Dropped ∷ []) c.in_ok-expr.ensures.parses)
    (refusing-end c.look.ensures.left c.in_default.ensures.found refl))))

pub args-loop-directives-preserved : goal.args-loop-directives-preserved
args-loop-directives-preserved n c = record {
  leads = onward c.loop-directives.invariant.leads (begins refl refl (expr-stays _) (λ t e. args-else _ _ (c.if-takes.ensures.no.unfit t e)) c.if-takes.ensures.no.shows (onward (beside (arg_next at Dropped ∷ []) c.in_ok-expr.ensures.parses)
      (reading (looks _ _ _ _ _ c.look.ensures.left c.in-Some.ensures.found c.bump.ensures.left) (search rules) done)));
  shorter = omega (arith, c.in_ok-expr.ensures.shorter);
}

pub args-returns-in-Ellipsis-clause-parses : goal.args-returns-in-Ellipsis-clause-parses
args-returns-in-Ellipsis-clause-parses n c =
    onward c.loop-directives.invariant.leads (begins refl refl (expr-stays _) (λ t e. args-else _ _ (c.if-takes.ensures.no.unfit t e)) c.if-takes.ensures.no.shows (onward (beside (arg_next at Dropped ∷ []) c.in_ok-expr.ensures.parses)
    (reading (looks _ _ _ _ _ c.look.ensures.left c.in-Some.ensures.found c.bump-in-Ellipsis.ensures.left) (search rules) (c.expect.ensures.parses _))))

pub args-returns-in-ParenClose-clause-parses : goal.args-returns-in-ParenClose-clause-parses
args-returns-in-ParenClose-clause-parses n c =
    onward c.loop-directives.invariant.leads (begins refl refl (expr-stays _) (λ t e. args-else _ _ (c.if-takes.ensures.no.unfit t e)) c.if-takes.ensures.no.shows (onward (beside (arg_next at Dropped ∷ []) c.in_ok-expr.ensures.parses)
    (reading (looks _ _ _ _ _ c.look.ensures.left c.in-Some.ensures.found c.bump-in-ParenClose.ensures.left) (search rules) done)))

pub args-returns-in_default-class : goal.args-returns-in_default-class
args-returns-in_default-class n c = record {
  parses = kept-refusal c.keep_refusal-in_default-class.ensures.refusal (onward c.loop-directives.invariant.leads (begins refl refl (expr-stays _) (λ t e. args-else _ _ (c.if-takes.ensures.no.unfit t e)) c.if-takes.ensures.no.shows (onward (beside (arg_next at Dropped ∷ []) c.in_ok-expr.ensures.parses)
      (refusing (looks _ _ _ _ _ c.look.ensures.left c.in-Some.ensures.found refl) (search rules)))));
  shorter = tt;
}

pub call-returns-in_default-clause-leads : goal.call-returns-in_default-clause-leads
call-returns-in_default-clause-leads n c = alike refl (λ t e. absurd (no-token _ t c.in_default.ensures.found e)) c.look.ensures.left

pub call-returns-in-ParenOpen-clause-leads : goal.call-returns-in-ParenOpen-clause-leads
call-returns-in-ParenOpen-clause-leads n c = reading (looks _ _ _ _ _ c.look.ensures.left c.in-Some.ensures.found c.bump.ensures.left) (search rules) (beside (after at c.args.newlines ∷ []) c.args-in-ParenOpen.ensures.parses)

pub call-returns-in_err-path-in-ColonColon-clause-leads : goal.call-returns-in_err-path-in-ColonColon-clause-leads
call-returns-in_err-path-in-ColonColon-clause-leads n c = quits _ c.from_residual.ensures.1 (reading (looks _ _ _ _ _ c.look.ensures.left c.in-Some.ensures.found c.bump-in-ColonColon.ensures.left) (search rules) (c.in_err-path-in-ColonColon.ensures.leads _))

pub call-returns-in_ok-path-in-ColonColon-clause-leads : goal.call-returns-in_ok-path-in-ColonColon-clause-leads
call-returns-in_ok-path-in-ColonColon-clause-leads n c =
    reading (looks _ _ _ _ _ c.look.ensures.left c.in-Some.ensures.found c.bump-in-ColonColon.ensures.left) (search rules) (onward (c.in_ok-path-in-ColonColon.ensures.leads _) (beside (after at c.args.newlines ∷ []) c.args-in-ColonColon.ensures.parses))

pub call-returns-in_default-class : goal.call-returns-in_default-class
call-returns-in_default-class n c = record {
  leads = alike refl (λ t e. subst (λ x. row after_ident c.args.newlines x ≡ row after c.args.newlines x) (same-token _ _ t c.in-Some.ensures.found e) (search rules)) c.look.ensures.left;
  shorter = omega arith;
}

pub index-returns-then-takes-clause-parses : goal.index-returns-then-takes-clause-parses
index-returns-then-takes-clause-parses n c = reading c.if-takes.ensures.yes.looks (index-star _ _ c.if-takes.ensures.yes.fits) (c.expect.ensures.parses _)

pub index-returns-in_err-expr-clause-parses : goal.index-returns-in_err-expr-clause-parses
index-returns-in_err-expr-clause-parses n c = quits _ c.from_residual.ensures.1
    (begins refl refl (expr-stays _) (λ t e. index-else _ _ (c.if-takes.ensures.no.unfit t e)) c.if-takes.ensures.no.shows (beside (the EndBracket at Dropped ∷ []) c.in_err-expr.ensures.parses))

pub index-returns-clause-parses : goal.index-returns-clause-parses
index-returns-clause-parses n c = begins refl refl (expr-stays _) (λ t e. index-else _ _ (c.if-takes.ensures.no.unfit t e)) c.if-takes.ensures.no.shows (onward (beside (the EndBracket at Dropped ∷ []) c.in_ok-expr.ensures.parses) (c.expect-2.ensures.parses _))

pub tuple_items-returns-then-takes-clause-parses : goal.tuple_items-returns-then-takes-clause-parses
tuple_items-returns-then-takes-clause-parses n c =
    onward c.loop-directives.invariant.leads (reading c.if-takes.ensures.yes.looks (tuple-end _ _ c.if-takes.ensures.yes.fits) done)

pub tuple_items-returns-in_err-expr-clause-parses : goal.tuple_items-returns-in_err-expr-clause-parses
tuple_items-returns-in_err-expr-clause-parses n c = quits _ c.from_residual.ensures.1
    (onward c.loop-directives.invariant.leads (begins refl refl (expr-stays _) (λ t e. tuple-else _ _ (c.if-takes.ensures.no.unfit t e)) c.if-takes.ensures.no.shows (beside (tuple_next at Dropped ∷ []) c.in_err-expr.ensures.parses)))

pub tuple_items-returns-in_default-clause-parses : goal.tuple_items-returns-in_default-clause-parses
tuple_items-returns-in_default-clause-parses n c = kept-refusal-end c.keep_refusal.ensures.refusal
    (onward c.loop-directives.invariant.leads (begins refl refl (expr-stays _) (λ t e. tuple-else _ _ (c.if-takes.ensures.no.unfit t e)) c.if-takes.ensures.no.shows (onward (beside (tuple_next at Dropped ∷ []) c.in_ok-expr.ensures.parses)
    (refusing-end c.look.ensures.left c.in_default.ensures.found refl))))

pub tuple_items-loop-directives-preserved : goal.tuple_items-loop-directives-preserved
tuple_items-loop-directives-preserved n c = record {
  leads = onward c.loop-directives.invariant.leads (begins refl refl (expr-stays _) (λ t e. tuple-else _ _ (c.if-takes.ensures.no.unfit t e)) c.if-takes.ensures.no.shows (onward (beside (tuple_next at Dropped ∷ []) c.in_ok-expr.ensures.parses)
      (reading (looks _ _ _ _ _ c.look.ensures.left c.in-Some.ensures.found c.bump.ensures.left) (search rules) done)));
  shorter = omega (arith, c.in_ok-expr.ensures.shorter);
}

pub tuple_items-returns-in-BracketClose-clause-parses : goal.tuple_items-returns-in-BracketClose-clause-parses
tuple_items-returns-in-BracketClose-clause-parses n c =
    onward c.loop-directives.invariant.leads (begins refl refl (expr-stays _) (λ t e. tuple-else _ _ (c.if-takes.ensures.no.unfit t e)) c.if-takes.ensures.no.shows (onward (beside (tuple_next at Dropped ∷ []) c.in_ok-expr.ensures.parses)
    (reading (looks _ _ _ _ _ c.look.ensures.left c.in-Some.ensures.found c.bump-in-BracketClose.ensures.left) (search rules) done)))

pub tuple_items-returns-in_default-class : goal.tuple_items-returns-in_default-class
tuple_items-returns-in_default-class n c = record {
  parses = kept-refusal c.keep_refusal-in_default-class.ensures.refusal (onward c.loop-directives.invariant.leads (begins refl refl (expr-stays _) (λ t e. tuple-else _ _ (c.if-takes.ensures.no.unfit t e)) c.if-takes.ensures.no.shows (onward (beside (tuple_next at Dropped ∷ []) c.in_ok-expr.ensures.parses)
      (refusing (looks _ _ _ _ _ c.look.ensures.left c.in-Some.ensures.found refl) (search rules)))));
  shorter = tt;
}

pub operand-returns-in_default-clause-leads : goal.operand-returns-in_default-clause-leads
operand-returns-in_default-clause-leads n c = kept-refusal-end c.keep_refusal.ensures.refusal (onward (c.start.ensures.leads _) (refusing-end c.start.ensures.left c.in_default.ensures.found refl))

pub operand-returns-in-Number-clause-leads : goal.operand-returns-in-Number-clause-leads
operand-returns-in-Number-clause-leads n c = onward (c.start.ensures.leads _) (reading (looks _ _ _ _ _ c.start.ensures.left c.in-Some.ensures.found c.bump.ensures.left) (search rules) done)

pub operand-returns-in-Ident-clause-leads : goal.operand-returns-in-Ident-clause-leads
operand-returns-in-Ident-clause-leads n c = onward (c.start.ensures.leads _) (reading (looks _ _ _ _ _ c.start.ensures.left c.in-Some.ensures.found c.bump-in-Ident.ensures.left) (search rules) c.call.ensures.leads)

pub operand-returns-in_err-expr-in-ParenOpen-clause-leads : goal.operand-returns-in_err-expr-in-ParenOpen-clause-leads
operand-returns-in_err-expr-in-ParenOpen-clause-leads n c = quits _ c.from_residual.ensures.1
    (onward (c.start.ensures.leads _) (reading (looks _ _ _ _ _ c.start.ensures.left c.in-Some.ensures.found c.bump-in-ParenOpen.ensures.left) (search rules) (beside (the EndParen at Dropped ∷ after at c.args.newlines ∷ []) c.in_err-expr-in-ParenOpen.ensures.parses)))

pub operand-returns-in_ok-expr-in-ParenOpen-clause-leads : goal.operand-returns-in_ok-expr-in-ParenOpen-clause-leads
operand-returns-in_ok-expr-in-ParenOpen-clause-leads n c =
    onward (c.start.ensures.leads _) (reading (looks _ _ _ _ _ c.start.ensures.left c.in-Some.ensures.found c.bump-in-ParenOpen.ensures.left) (search rules)
    (onward (beside (the EndParen at Dropped ∷ after at c.args.newlines ∷ []) c.in_ok-expr-in-ParenOpen.ensures.parses) (beside (after at c.args.newlines ∷ []) (c.expect.ensures.parses _))))

pub operand-returns-in-BracketOpen-clause-leads : goal.operand-returns-in-BracketOpen-clause-leads
operand-returns-in-BracketOpen-clause-leads n c = onward (c.start.ensures.leads _) (reading (looks _ _ _ _ _ c.start.ensures.left c.in-Some.ensures.found c.bump-in-BracketOpen.ensures.left) (search rules) (beside (after at c.args.newlines ∷ []) c.tuple.ensures.parses))

pub operand-returns-in_err-parts-in-QuoteOpen-clause-leads : goal.operand-returns-in_err-parts-in-QuoteOpen-clause-leads
operand-returns-in_err-parts-in-QuoteOpen-clause-leads n c = quits _ c.from_residual-in_err-parts-in-QuoteOpen.ensures.1
    (onward (c.start.ensures.leads _) (reading (looks _ _ _ _ _ c.start.ensures.left c.in-Some.ensures.found c.bump-in-QuoteOpen.ensures.left) (search rules) (beside (the EndQuote at c.args.newlines ∷ after at c.args.newlines ∷ []) c.in_err-parts-in-QuoteOpen.ensures.parses)))

pub operand-returns-in_ok-parts-in-QuoteOpen-clause-leads : goal.operand-returns-in_ok-parts-in-QuoteOpen-clause-leads
operand-returns-in_ok-parts-in-QuoteOpen-clause-leads n c =
    onward (c.start.ensures.leads _) (reading (looks _ _ _ _ _ c.start.ensures.left c.in-Some.ensures.found c.bump-in-QuoteOpen.ensures.left) (search rules)
    (onward (beside (the EndQuote at c.args.newlines ∷ after at c.args.newlines ∷ []) c.in_ok-parts-in-QuoteOpen.ensures.parses) (beside (after at c.args.newlines ∷ []) (c.expect-in-QuoteOpen.ensures.parses _))))

pub operand-returns-in_err-parts-in-HeredocOpen-clause-leads : goal.operand-returns-in_err-parts-in-HeredocOpen-clause-leads
operand-returns-in_err-parts-in-HeredocOpen-clause-leads n c = quits _ c.from_residual-in_err-parts-in-HeredocOpen.ensures.1
    (onward (c.start.ensures.leads _) (reading (looks _ _ _ _ _ c.start.ensures.left c.in-Some.ensures.found c.bump-in-HeredocOpen.ensures.left) (search rules) (beside (the EndHeredoc at c.args.newlines ∷ after at c.args.newlines ∷ []) c.in_err-parts-in-HeredocOpen.ensures.parses)))

pub operand-returns-in_ok-parts-in-HeredocOpen-clause-leads : goal.operand-returns-in_ok-parts-in-HeredocOpen-clause-leads
operand-returns-in_ok-parts-in-HeredocOpen-clause-leads n c =
    onward (c.start.ensures.leads _) (reading (looks _ _ _ _ _ c.start.ensures.left c.in-Some.ensures.found c.bump-in-HeredocOpen.ensures.left) (search rules)
    (onward (beside (the EndHeredoc at c.args.newlines ∷ after at c.args.newlines ∷ []) c.in_ok-parts-in-HeredocOpen.ensures.parses) (beside (after at c.args.newlines ∷ []) (c.expect-in-HeredocOpen.ensures.parses _))))

pub operand-returns-in_default-class : goal.operand-returns-in_default-class
operand-returns-in_default-class n c = record {
  leads = kept-refusal c.keep_refusal-in_default-class.ensures.refusal (onward (c.start.ensures.leads _) (refusing (looks _ _ _ _ _ c.start.ensures.left c.in-Some.ensures.found refl) (search rules)));
  shorter = tt;
}

pub parts-returns-in_default-clause-parses : goal.parts-returns-in_default-clause-parses
parts-returns-in_default-clause-parses n c = kept-refusal-end c.keep_refusal.ensures.refusal (onward c.loop-token.invariant.leads (refusing-end c.look.ensures.left c.in_default.ensures.found refl))

pub parts-loop-token-preserved-in-Lit : goal.parts-loop-token-preserved-in-Lit
parts-loop-token-preserved-in-Lit n c = record {
  leads = onward c.loop-token.invariant.leads (reading (looks _ _ _ _ _ c.look.ensures.left c.in-Some.ensures.found c.bump.ensures.left) (search rules) done);
  shorter = omega arith;
}

pub parts-returns-in-QuoteClose-clause-parses : goal.parts-returns-in-QuoteClose-clause-parses
parts-returns-in-QuoteClose-clause-parses n c = onward c.loop-token.invariant.leads (vanishing (looks _ _ _ _ _ c.look.ensures.left c.in-Some.ensures.found refl) (search rules) c.look.ensures.left)

pub parts-returns-in_default-class : goal.parts-returns-in_default-class
parts-returns-in_default-class n c = record {
  parses = kept-refusal c.keep_refusal-in_default-class.ensures.refusal (onward c.loop-token.invariant.leads (refusing (looks _ _ _ _ _ c.look.ensures.left c.in-Some.ensures.found refl) (search rules)));
  shorter = tt;
}

pub follow-returns-in_default-clause-leads : goal.follow-returns-in_default-clause-leads
follow-returns-in_default-clause-leads n c = onward c.loop-token.invariant.leads (vanishing-end c.look.ensures.left c.in_default.ensures.found refl)

pub follow-loop-token-preserved-in-Continue-1 : goal.follow-loop-token-preserved-in-Continue-1
follow-loop-token-preserved-in-Continue-1 n c = record {
  leads = onward c.loop-token.invariant.leads (reading (looks _ _ _ _ _ c.look.ensures.left c.in-Some.ensures.found c.bump.ensures.left) (search rules) (beside (after at c.args.newlines ∷ []) (c.in_ok-step-in-Dot.ensures.parses _)));
  shorter = omega (arith, c.in_ok-step-in-Dot.ensures.shorter);
}

pub follow-returns-in_err-step-in-Dot-clause-leads : goal.follow-returns-in_err-step-in-Dot-clause-leads
follow-returns-in_err-step-in-Dot-clause-leads n c = quits _ c.from_residual.ensures.1
    (onward c.loop-token.invariant.leads (reading (looks _ _ _ _ _ c.look.ensures.left c.in-Some.ensures.found c.bump.ensures.left) (search rules) (beside (after at c.args.newlines ∷ []) (c.in_err-step-in-Dot.ensures.parses _))))

pub follow-loop-token-preserved : goal.follow-loop-token-preserved
follow-loop-token-preserved n c = record {
  leads = onward c.loop-token.invariant.leads (reading (looks _ _ _ _ _ c.look.ensures.left c.in-Some.ensures.found c.bump-in-BracketOpen.ensures.left) (search rules) (beside (after at c.args.newlines ∷ []) c.in_ok-index-in-BracketOpen.ensures.parses));
  shorter = omega (arith, c.in_ok-index-in-BracketOpen.ensures.shorter);
}

pub follow-returns-in_err-index-in-BracketOpen-clause-leads : goal.follow-returns-in_err-index-in-BracketOpen-clause-leads
follow-returns-in_err-index-in-BracketOpen-clause-leads n c = quits _ c.from_residual-in_err-index-in-BracketOpen.ensures.1
    (onward c.loop-token.invariant.leads (reading (looks _ _ _ _ _ c.look.ensures.left c.in-Some.ensures.found c.bump-in-BracketOpen.ensures.left) (search rules) (beside (after at c.args.newlines ∷ []) c.in_err-index-in-BracketOpen.ensures.parses)))

pub follow-returns-in-Minus-clause-leads : goal.follow-returns-in-Minus-clause-leads
follow-returns-in-Minus-clause-leads n c = onward c.loop-token.invariant.leads (reading (looks _ _ _ _ _ c.look.ensures.left c.in-Some.ensures.found c.bump-in-Minus.ensures.left) (search rules) done)

pub follow-returns-in-Question-clause-leads : goal.follow-returns-in-Question-clause-leads
follow-returns-in-Question-clause-leads n c = onward c.loop-token.invariant.leads (reading (looks _ _ _ _ _ c.look.ensures.left c.in-Some.ensures.found c.bump-in-Question.ensures.left) (search rules) done)

pub follow-returns-in_default-class : goal.follow-returns-in_default-class
follow-returns-in_default-class n c = record {
  leads = onward c.loop-token.invariant.leads (vanishing (looks _ _ _ _ _ c.look.ensures.left c.in-Some.ensures.found refl) (search rules) c.look.ensures.left);
  shorter = omega arith;
  onward = search rules;
}

pub whole_expr-returns-in_err-expect-in-Other-clause-parses : goal.whole_expr-returns-in_err-expect-in-Other-clause-parses
whole_expr-returns-in_err-expect-in-Other-clause-parses n c = quits _ c.from_residual-in_err-expect-in-Other.ensures.1
    (onward (renamed (pending_choices-down c.args.newlines c.loop-self.waiting c.if-waiting-eq0.false)
    (onward c.loop-self.invariant.leads (onward (beside (pending_choices c.args.newlines c.loop-self.waiting []) c.in_ok-operand.ensures.leads)
    (beside (pending_choices c.args.newlines c.loop-self.waiting []) (renamed (ap (λ f. follow_symbols c.args.newlines f) c.in-Other.is) c.in_ok-follow.ensures.leads)))))
    (beside (expr at c.args.newlines ∷ pending_choices c.args.newlines (c.loop-self.waiting - 1) []) (c.in_err-expect-in-Other.ensures.parses _)))

pub whole_expr-loop-self-preserved : goal.whole_expr-loop-self-preserved
whole_expr-loop-self-preserved n c = record {
  leads = onward (renamed (pending_choices-down c.args.newlines c.loop-self.waiting c.if-waiting-eq0.false)
      (onward c.loop-self.invariant.leads (onward (beside (pending_choices c.args.newlines c.loop-self.waiting []) c.in_ok-operand.ensures.leads)
      (beside (pending_choices c.args.newlines c.loop-self.waiting []) (renamed (ap (λ f. follow_symbols c.args.newlines f) c.in-Other.is) c.in_ok-follow.ensures.leads)))))
      (beside (expr at c.args.newlines ∷ pending_choices c.args.newlines (c.loop-self.waiting - 1) []) (c.in_ok-expect-in-Other.ensures.parses _));
  shorter = omega (arith, c.in_ok-operand.ensures.shorter, c.in_ok-follow.ensures.shorter, c.in_ok-expect-in-Other.ensures.shorter);
  room = omega (arith, c.loop-self.invariant.room, c.in_ok-operand.ensures.shorter, c.in_ok-follow.ensures.shorter, c.in_ok-expect-in-Other.ensures.shorter);
}

pub sequence-returns-clause-parses : goal.sequence-returns-clause-parses
sequence-returns-clause-parses n c = onward (beside (the EndSequence at Dropped ∷ []) c.in_ok-expr.ensures.parses) (c.expect.ensures.parses _)

pub parts-loop-token-preserved : goal.parts-loop-token-preserved
parts-loop-token-preserved n c = record {
  leads = onward c.loop-token.invariant.leads (reading (looks _ _ _ _ _ c.look.ensures.left c.in-Some.ensures.found c.bump-in-ControlOpen.ensures.left) (search rules) (beside (parts at c.args.newlines ∷ []) c.in_ok-directive-in-ControlOpen.ensures.parses));
  shorter = omega (arith, c.in_ok-directive-in-ControlOpen.ensures.shorter);
}

pub parts-returns-in_err-directive-in-ControlOpen-clause-parses : goal.parts-returns-in_err-directive-in-ControlOpen-clause-parses
parts-returns-in_err-directive-in-ControlOpen-clause-parses n c = quits _ c.from_residual-in_err-directive-in-ControlOpen.ensures.1 (onward c.loop-token.invariant.leads (reading (looks _ _ _ _ _ c.look.ensures.left c.in-Some.ensures.found c.bump-in-ControlOpen.ensures.left) (search rules) (beside (parts at c.args.newlines ∷ []) c.in_err-directive-in-ControlOpen.ensures.parses)))

pub directive-returns-in_default-clause-parses : goal.directive-returns-in_default-clause-parses
directive-returns-in_default-clause-parses n c = kept-refusal-end c.keep_refusal.ensures.refusal (refusing-end c.look.ensures.left c.in_default.ensures.found refl)

pub directive-returns-in_default-class : goal.directive-returns-in_default-class
directive-returns-in_default-class n c = record { parses = kept-refusal c.keep_refusal-in_default-class.ensures.refusal (refusing (looks _ _ _ _ _ c.look.ensures.left c.in-Some.ensures.found refl) (search rules)); shorter = tt }

pub directive-returns-in_default-word : goal.directive-returns-in_default-word
directive-returns-in_default-word n c = record { parses = kept-refusal c.keep_refusal-in_default-word.ensures.refusal (refusing (looks _ _ _ _ _ c.look.ensures.left c.in-Some.ensures.found refl) (search rules)); shorter = tt }

pub directive-returns-then-directives-ge-MAX_DIRECTIVES-clause-parses : goal.directive-returns-then-directives-ge-MAX_DIRECTIVES-clause-parses
directive-returns-then-directives-ge-MAX_DIRECTIVES-clause-parses n c = kept-refusal c.keep_refusal-then-directives-ge-MAX_DIRECTIVES.ensures.refusal (too-deep {xs = expr at Dropped ∷ the EndSequence at Dropped ∷ inside InIf at Dropped ∷ []} (looks _ _ _ _ _ c.look.ensures.left c.in-Some.ensures.found refl) (search rules) (omega arith))

pub directive-returns-then-directives-ge-MAX_DIRECTIVES-2-clause-parses : goal.directive-returns-then-directives-ge-MAX_DIRECTIVES-2-clause-parses
directive-returns-then-directives-ge-MAX_DIRECTIVES-2-clause-parses n c = kept-refusal c.keep_refusal-then-directives-ge-MAX_DIRECTIVES-2.ensures.refusal (too-deep {xs = the Name at Dropped ∷ names at Dropped ∷ expr at Dropped ∷ the EndSequence at Dropped ∷ inside InFor at Dropped ∷ []} (looks _ _ _ _ _ c.look.ensures.left c.in-Some.ensures.found refl) (search rules) (omega arith))

pub directive-returns-in_err-sequence-in-If-clause-parses : goal.directive-returns-in_err-sequence-in-If-clause-parses
directive-returns-in_err-sequence-in-If-clause-parses n c = opening-row {p = c.args.number} (looks _ _ _ _ _ c.look.ensures.left c.in-Some.ensures.found c.bump.ensures.left) (search rules) (omega arith)
    (end-quits _ c.from_residual.ensures.1 (beside (inside InIf at Dropped ∷ []) c.in_err-sequence-in-If.ensures.parses))

pub directive-returns-in_ok-sequence-in-If-clause-parses : goal.directive-returns-in_ok-sequence-in-If-clause-parses
directive-returns-in_ok-sequence-in-If-clause-parses n c = opening-row {p = c.args.number} (looks _ _ _ _ _ c.look.ensures.left c.in-Some.ensures.found c.bump.ensures.left) (search rules) (omega arith)
    (end-onward (beside (inside InIf at Dropped ∷ []) c.in_ok-sequence-in-If.ensures.parses) c.section.ensures.ends)

pub section-returns-in_default-clause-ends : goal.section-returns-in_default-clause-ends
section-returns-in_default-clause-ends n c = end-kept-refusal c.keep_refusal.ensures.refusal (end-fails {A = Unit {0}} {ys = []} {mid = c.look.new.self.left} (onward c.loop-token.invariant.leads (refusing-end c.look.ensures.left c.in_default.ensures.found refl)))

pub section-loop-token-preserved-in-Lit : goal.section-loop-token-preserved-in-Lit
section-loop-token-preserved-in-Lit n c = record {
  leads = onward c.loop-token.invariant.leads (reading (looks _ _ _ _ _ c.look.ensures.left c.in-Some.ensures.found c.bump.ensures.left) (search rules) done);
  shorter = omega arith;
}

pub section-returns-in_err-sequence-in-InterpOpen-clause-ends : goal.section-returns-in_err-sequence-in-InterpOpen-clause-ends
section-returns-in_err-sequence-in-InterpOpen-clause-ends n c = end-quits _ c.from_residual.ensures.1 (onward c.loop-token.invariant.leads (reading (looks _ _ _ _ _ c.look.ensures.left c.in-Some.ensures.found c.bump-in-InterpOpen.ensures.left) (search rules) (beside (inside c.loop-token.section at Dropped ∷ []) c.in_err-sequence-in-InterpOpen.ensures.parses)))

pub section-loop-token-preserved-in-Continue-1 : goal.section-loop-token-preserved-in-Continue-1
section-loop-token-preserved-in-Continue-1 n c = record {
  leads = onward c.loop-token.invariant.leads (reading (looks _ _ _ _ _ c.look.ensures.left c.in-Some.ensures.found c.bump-in-InterpOpen.ensures.left) (search rules) (beside (inside c.loop-token.section at Dropped ∷ []) c.in_ok-sequence-in-InterpOpen.ensures.parses));
  shorter = omega (arith, c.in_ok-sequence-in-InterpOpen.ensures.shorter);
}

pub section-returns-in_default-look-clause-ends : goal.section-returns-in_default-look-clause-ends
section-returns-in_default-look-clause-ends n c = end-kept-refusal c.keep_refusal-in_default-look.ensures.refusal (end-fails {A = Unit {0}} {ys = []} {mid = c.look-in-ControlOpen.new.self.left} (onward c.loop-token.invariant.leads (reading {xs = section_directive c.loop-token.section c.in-Some.token.number at Dropped ∷ []} (looks _ _ _ _ _ c.look.ensures.left c.in-Some.ensures.found c.bump-in-ControlOpen.ensures.left) (search rules) (refusing-end c.look-in-ControlOpen.ensures.left c.in_default-look.ensures.found refl))))

pub section-returns-in_default-class : goal.section-returns-in_default-class
section-returns-in_default-class n c = record { ends = end-kept-refusal c.keep_refusal-in_default-class.ensures.refusal (end-fails {A = Unit {0}} {ys = []} {mid = c.look.new.self.left} (onward c.loop-token.invariant.leads (refusing (looks _ _ _ _ _ c.look.ensures.left c.in-Some.ensures.found refl) (search rules)))); shorter = tt }

pub section-returns-in_err-expect-in-Onward-clause-ends : goal.section-returns-in_err-expect-in-Onward-clause-ends
section-returns-in_err-expect-in-Onward-clause-ends n c = end-quits _ c.from_residual-in_err-expect-in-Onward.ensures.1 (onward c.loop-token.invariant.leads (reading {xs = section_directive c.loop-token.section c.in-Some.token.number at Dropped ∷ []} (looks _ _ _ _ _ c.look.ensures.left c.in-Some.ensures.found c.bump-in-ControlOpen.ensures.left) (search rules) (reading (looks _ _ _ _ _ c.look-in-ControlOpen.ensures.left c.in-Some-look.ensures.found c.bump-in-Onward.ensures.left) (effect_of_word-onward c.loop-token.section Dropped c.in-Some.token.number _ _ _ c.effect_of_word.ensures c.in-Onward.is) (beside (inside InElse at Dropped ∷ []) (c.in_err-expect-in-Onward.ensures.parses _)))))

pub section-loop-token-preserved-in-Onward : goal.section-loop-token-preserved-in-Onward
section-loop-token-preserved-in-Onward n c = record {
  leads = onward c.loop-token.invariant.leads (reading {xs = section_directive c.loop-token.section c.in-Some.token.number at Dropped ∷ []} (looks _ _ _ _ _ c.look.ensures.left c.in-Some.ensures.found c.bump-in-ControlOpen.ensures.left) (search rules) (reading (looks _ _ _ _ _ c.look-in-ControlOpen.ensures.left c.in-Some-look.ensures.found c.bump-in-Onward.ensures.left) (effect_of_word-onward c.loop-token.section Dropped c.in-Some.token.number _ _ _ c.effect_of_word.ensures c.in-Onward.is) (beside (inside InElse at Dropped ∷ []) (c.in_ok-expect-in-Onward.ensures.parses _))));
  shorter = omega (arith, c.in_ok-expect-in-Onward.ensures.shorter);
}

pub section-returns-in-Closing-clause-ends : goal.section-returns-in-Closing-clause-ends
section-returns-in-Closing-clause-ends n c = end-onward (onward c.loop-token.invariant.leads (reading {xs = section_directive c.loop-token.section c.in-Some.token.number at Dropped ∷ []} (looks _ _ _ _ _ c.look.ensures.left c.in-Some.ensures.found c.bump-in-ControlOpen.ensures.left) (search rules) (done {a = tt {0}}))) (closing (looks _ _ _ _ _ c.look-in-ControlOpen.ensures.left c.in-Some-look.ensures.found c.bump-in-Closing.ensures.left) (effect_of_word-closing c.loop-token.section Dropped c.in-Some.token.number _ _ _ c.effect_of_word.ensures c.in-Closing.is) (c.expect-in-Closing.ensures.parses _))

pub section-returns-in_err-directive-in-Inner-clause-ends : goal.section-returns-in_err-directive-in-Inner-clause-ends
section-returns-in_err-directive-in-Inner-clause-ends n c = end-quits _ c.from_residual-in_err-directive-in-Inner.ensures.1 (onward c.loop-token.invariant.leads (reading {xs = section_directive c.loop-token.section c.in-Some.token.number at Dropped ∷ []} (looks _ _ _ _ _ c.look.ensures.left c.in-Some.ensures.found c.bump-in-ControlOpen.ensures.left) (search rules) (begins {s' = directive c.in-Some.token.number} refl refl (directive-stays c.in-Some.token.number Dropped) (λ t e. effect_of_word-inner c.loop-token.section Dropped c.in-Some.token.number _ t.class _ (c.effect_of_word.ensures ∙ ap (λ x. effect_of_word c.loop-token.section x.class) (same-token _ _ _ c.in-Some-look.ensures.found e)) c.in-Inner.is) c.look-in-ControlOpen.ensures.left (beside (inside c.loop-token.section at Dropped ∷ []) c.in_err-directive-in-Inner.ensures.parses))))

pub section-loop-token-preserved : goal.section-loop-token-preserved
section-loop-token-preserved n c = record {
  leads = onward c.loop-token.invariant.leads (reading {xs = section_directive c.loop-token.section c.in-Some.token.number at Dropped ∷ []} (looks _ _ _ _ _ c.look.ensures.left c.in-Some.ensures.found c.bump-in-ControlOpen.ensures.left) (search rules) (begins {s' = directive c.in-Some.token.number} refl refl (directive-stays c.in-Some.token.number Dropped) (λ t e. effect_of_word-inner c.loop-token.section Dropped c.in-Some.token.number _ t.class _ (c.effect_of_word.ensures ∙ ap (λ x. effect_of_word c.loop-token.section x.class) (same-token _ _ _ c.in-Some-look.ensures.found e)) c.in-Inner.is) c.look-in-ControlOpen.ensures.left (beside (inside c.loop-token.section at Dropped ∷ []) c.in_ok-directive-in-Inner.ensures.parses)));
  shorter = omega (arith, c.in_ok-directive-in-Inner.ensures.shorter);
}

pub parts-returns-in_err-sequence-in-InterpOpen-clause-parses : goal.parts-returns-in_err-sequence-in-InterpOpen-clause-parses
parts-returns-in_err-sequence-in-InterpOpen-clause-parses n c = quits _ c.from_residual.ensures.1
    (onward c.loop-token.invariant.leads (reading (looks _ _ _ _ _ c.look.ensures.left c.in-Some.ensures.found c.bump-in-InterpOpen.ensures.left) (search rules) (beside (parts at c.args.newlines ∷ []) c.in_err-sequence-in-InterpOpen.ensures.parses)))

pub parts-loop-token-preserved-in-Continue-1 : goal.parts-loop-token-preserved-in-Continue-1
parts-loop-token-preserved-in-Continue-1 n c = record {
  leads = onward c.loop-token.invariant.leads (reading (looks _ _ _ _ _ c.look.ensures.left c.in-Some.ensures.found c.bump-in-InterpOpen.ensures.left) (search rules) (beside (parts at c.args.newlines ∷ []) c.in_ok-sequence-in-InterpOpen.ensures.parses));
  shorter = omega (arith, c.in_ok-sequence-in-InterpOpen.ensures.shorter);
}

pub directive-returns-in_err-names-in-For-clause-parses : goal.directive-returns-in_err-names-in-For-clause-parses
directive-returns-in_err-names-in-For-clause-parses n c = opening-row {p = c.args.number} (looks _ _ _ _ _ c.look.ensures.left c.in-Some.ensures.found c.bump-in-For.ensures.left) (search rules) (omega arith)
    (end-quits _ c.from_residual-in_err-names-in-For.ensures.1 (beside (expr at Dropped ∷ the EndSequence at Dropped ∷ inside InFor at Dropped ∷ []) (c.in_err-names-in-For.ensures.parses _)))

pub directive-returns-in_err-sequence-in-For-clause-parses : goal.directive-returns-in_err-sequence-in-For-clause-parses
directive-returns-in_err-sequence-in-For-clause-parses n c = opening-row {p = c.args.number} (looks _ _ _ _ _ c.look.ensures.left c.in-Some.ensures.found c.bump-in-For.ensures.left) (search rules) (omega arith)
    (end-quits _ c.from_residual-in_err-sequence-in-For.ensures.1 (onward (beside (expr at Dropped ∷ the EndSequence at Dropped ∷ inside InFor at Dropped ∷ []) (c.in_ok-names-in-For.ensures.parses _)) (beside (inside InFor at Dropped ∷ []) c.in_err-sequence-in-For.ensures.parses)))

pub directive-returns-in_ok-sequence-in-For-clause-parses : goal.directive-returns-in_ok-sequence-in-For-clause-parses
directive-returns-in_ok-sequence-in-For-clause-parses n c = opening-row {p = c.args.number} (looks _ _ _ _ _ c.look.ensures.left c.in-Some.ensures.found c.bump-in-For.ensures.left) (search rules) (omega arith)
    (end-onward (onward (beside (expr at Dropped ∷ the EndSequence at Dropped ∷ inside InFor at Dropped ∷ []) (c.in_ok-names-in-For.ensures.parses _)) (beside (inside InFor at Dropped ∷ []) c.in_ok-sequence-in-For.ensures.parses)) c.section-in-For.ensures.ends)

pub operand-returns-in-BraceOpen-clause-leads : goal.operand-returns-in-BraceOpen-clause-leads
operand-returns-in-BraceOpen-clause-leads n c = onward (c.start.ensures.leads _) (reading (looks _ _ _ _ _ c.start.ensures.left c.in-Some.ensures.found c.bump-in-BraceOpen.ensures.left) (search rules) (beside (after at c.args.newlines ∷ []) c.object.ensures.parses))

pub tuple-returns-in_err-generator-clause-parses : goal.tuple-returns-in_err-generator-clause-parses
tuple-returns-in_err-generator-clause-parses n c = quits _ c.from_residual.ensures.1 (reading c.if-takes.ensures.yes.looks (tuple-for _ _ c.if-takes.ensures.yes.fits) (beside (tuple_if at Dropped ∷ []) c.in_err-generator.ensures.parses))

pub tuple-returns-then-takes-clause-parses : goal.tuple-returns-then-takes-clause-parses
tuple-returns-then-takes-clause-parses n c = reading c.if-takes.ensures.yes.looks (tuple-for _ _ c.if-takes.ensures.yes.fits) (onward (beside (tuple_if at Dropped ∷ []) c.in_ok-generator.ensures.parses) c.tuple_condition.ensures.parses)

pub tuple-returns-clause-parses : goal.tuple-returns-clause-parses
tuple-returns-clause-parses n c = onward (alike {a = tt {0}} {s = tuple} {s' = tuple_item} refl (λ t e. tuple-listed _ _ (c.if-takes.ensures.no.unfit t e)) c.if-takes.ensures.no.shows) c.tuple_items.ensures.parses

pub generator-returns-in_err-names-clause-parses : goal.generator-returns-in_err-names-clause-parses
generator-returns-in_err-names-clause-parses n c = quits _ c.from_residual.ensures.1 (beside (expr at Dropped ∷ the Separator at Dropped ∷ expr at Dropped ∷ []) (c.in_err-names.ensures.parses _))

pub generator-returns-in_err-expr-clause-parses : goal.generator-returns-in_err-expr-clause-parses
generator-returns-in_err-expr-clause-parses n c = quits _ c.from_residual-in_err-expr.ensures.1 (onward (beside (expr at Dropped ∷ the Separator at Dropped ∷ expr at Dropped ∷ []) (c.in_ok-names.ensures.parses _)) (beside (the Separator at Dropped ∷ expr at Dropped ∷ []) c.in_err-expr.ensures.parses))

pub generator-returns-in_err-expect-clause-parses : goal.generator-returns-in_err-expect-clause-parses
generator-returns-in_err-expect-clause-parses n c = quits _ c.from_residual-in_err-expect.ensures.1 (onward (beside (expr at Dropped ∷ the Separator at Dropped ∷ expr at Dropped ∷ []) (c.in_ok-names.ensures.parses _)) (onward (beside (the Separator at Dropped ∷ expr at Dropped ∷ []) c.in_ok-expr.ensures.parses) (beside (expr at Dropped ∷ []) (c.in_err-expect.ensures.parses _))))

pub generator-returns-clause-parses : goal.generator-returns-clause-parses
generator-returns-clause-parses n c = onward (beside (expr at Dropped ∷ the Separator at Dropped ∷ expr at Dropped ∷ []) (c.in_ok-names.ensures.parses _)) (onward (beside (the Separator at Dropped ∷ expr at Dropped ∷ []) c.in_ok-expr.ensures.parses) (onward (beside (expr at Dropped ∷ []) (c.in_ok-expect.ensures.parses _)) c.expr-2.ensures.parses))

pub tuple_condition-returns-in_err-expr-clause-parses : goal.tuple_condition-returns-in_err-expr-clause-parses
tuple_condition-returns-in_err-expr-clause-parses n c = quits _ c.from_residual.ensures.1 (reading c.if-takes.ensures.yes.looks (tuple-if _ _ c.if-takes.ensures.yes.fits) (beside (the EndBracket at Dropped ∷ []) c.in_err-expr.ensures.parses))

pub tuple_condition-returns-then-takes-clause-parses : goal.tuple_condition-returns-then-takes-clause-parses
tuple_condition-returns-then-takes-clause-parses n c = reading c.if-takes.ensures.yes.looks (tuple-if _ _ c.if-takes.ensures.yes.fits) (onward (beside (the EndBracket at Dropped ∷ []) c.in_ok-expr.ensures.parses) (c.expect.ensures.parses _))

pub tuple_condition-returns-clause-parses : goal.tuple_condition-returns-clause-parses
tuple_condition-returns-clause-parses n c = onward (alike {a = tt {0}} {s = tuple_if} {s' = the EndBracket} refl (λ t e. tuple-plain _ _ (c.if-takes.ensures.no.unfit t e)) c.if-takes.ensures.no.shows) (c.expect-2.ensures.parses _)

pub object_condition-returns-in_err-expr-clause-parses : goal.object_condition-returns-in_err-expr-clause-parses
object_condition-returns-in_err-expr-clause-parses n c = quits _ c.from_residual.ensures.1 (reading c.if-takes.ensures.yes.looks (object-if _ _ c.if-takes.ensures.yes.fits) (beside (the EndBrace at Dropped ∷ []) c.in_err-expr.ensures.parses))

pub object_condition-returns-then-takes-clause-parses : goal.object_condition-returns-then-takes-clause-parses
object_condition-returns-then-takes-clause-parses n c = reading c.if-takes.ensures.yes.looks (object-if _ _ c.if-takes.ensures.yes.fits) (onward (beside (the EndBrace at Dropped ∷ []) c.in_ok-expr.ensures.parses) (c.expect.ensures.parses _))

pub object_condition-returns-clause-parses : goal.object_condition-returns-clause-parses
object_condition-returns-clause-parses n c = onward (alike {a = tt {0}} {s = object_if} {s' = the EndBrace} refl (λ t e. object-plain _ _ (c.if-takes.ensures.no.unfit t e)) c.if-takes.ensures.no.shows) (c.expect-2.ensures.parses _)

pub object-returns-then-takes-clause-parses : goal.object-returns-then-takes-clause-parses
object-returns-then-takes-clause-parses n c = past-reading object-passes c.if-takes.ensures.yes.looks (object-for _ _ c.if-takes.ensures.yes.fits) c.object_for.ensures.parses

pub object-returns-clause-parses : goal.object-returns-clause-parses
object-returns-clause-parses n c = onward (past-alike {a = tt {0}} {s = object} {s' = object_item} object-passes refl (λ t e k. object-listed _ _ (c.if-takes.ensures.no.unfit t e) k) c.if-takes.ensures.no.shows) c.entries.ensures.parses

pub entries-returns-then-takes-clause-parses : goal.entries-returns-then-takes-clause-parses
entries-returns-then-takes-clause-parses n c = onward c.loop-directives.invariant.leads (past-reading item-passes c.if-takes.ensures.yes.looks (item-end _ _ c.if-takes.ensures.yes.fits) done)

pub entries-returns-in_err-entry-clause-parses : goal.entries-returns-in_err-entry-clause-parses
entries-returns-in_err-entry-clause-parses n c = quits _ c.from_residual.ensures.1 (onward c.loop-directives.invariant.leads (past-begins item-passes refl (λ t e k. item-else _ _ (c.if-takes.ensures.no.unfit t e) k) c.if-takes.ensures.no.shows (beside (object_next at Seen ∷ []) c.in_err-entry.ensures.parses)))

pub entries-returns-in_default-clause-parses : goal.entries-returns-in_default-clause-parses
entries-returns-in_default-clause-parses n c = kept-refusal-end c.keep_refusal.ensures.refusal (onward c.loop-directives.invariant.leads (past-begins item-passes refl (λ t e k. item-else _ _ (c.if-takes.ensures.no.unfit t e) k) c.if-takes.ensures.no.shows (onward (beside (object_next at Seen ∷ []) c.in_ok-entry.ensures.parses) (refusing-end c.look.ensures.left c.in_default.ensures.found refl))))

pub entries-loop-directives-preserved : goal.entries-loop-directives-preserved
entries-loop-directives-preserved n c = record {
  leads = onward c.loop-directives.invariant.leads (past-begins item-passes refl (λ t e k. item-else _ _ (c.if-takes.ensures.no.unfit t e) k) c.if-takes.ensures.no.shows (onward (beside (object_next at Seen ∷ []) c.in_ok-entry.ensures.parses) (reading (looks _ _ _ _ _ c.look.ensures.left c.in-Some.ensures.found c.bump.ensures.left) (search rules) done)));
  shorter = omega (arith, c.in_ok-entry.ensures.shorter);
}

pub entries-returns-in-BraceClose-clause-parses : goal.entries-returns-in-BraceClose-clause-parses
entries-returns-in-BraceClose-clause-parses n c = onward c.loop-directives.invariant.leads (past-begins item-passes refl (λ t e k. item-else _ _ (c.if-takes.ensures.no.unfit t e) k) c.if-takes.ensures.no.shows (onward (beside (object_next at Seen ∷ []) c.in_ok-entry.ensures.parses) (reading (looks _ _ _ _ _ c.look.ensures.left c.in-Some.ensures.found c.bump-in-BraceClose.ensures.left) (search rules) done)))

pub entries-returns-in_default-class : goal.entries-returns-in_default-class
entries-returns-in_default-class n c = record {
  parses = kept-refusal c.keep_refusal-in_default-class.ensures.refusal (onward c.loop-directives.invariant.leads (past-begins item-passes refl (λ t e k. item-else _ _ (c.if-takes.ensures.no.unfit t e) k) c.if-takes.ensures.no.shows (onward (beside (object_next at Seen ∷ []) c.in_ok-entry.ensures.parses) (refusing (looks _ _ _ _ _ c.look.ensures.left c.in-Some.ensures.found refl) (search rules)))));
  shorter = tt;
}

pub entry-returns-in_err-expr-clause-parses : goal.entry-returns-in_err-expr-clause-parses
entry-returns-in_err-expr-clause-parses n c = quits _ c.from_residual.ensures.1 (beside (separator at Seen ∷ expr at Seen ∷ []) c.in_err-expr.ensures.parses)

pub entry-returns-in_err-separator-clause-parses : goal.entry-returns-in_err-separator-clause-parses
entry-returns-in_err-separator-clause-parses n c = quits _ c.from_residual-in_err-separator.ensures.1 (onward (beside (separator at Seen ∷ expr at Seen ∷ []) c.in_ok-expr.ensures.parses) (beside (expr at Seen ∷ []) (c.in_err-separator.ensures.parses _)))

pub entry-returns-clause-parses : goal.entry-returns-clause-parses
entry-returns-clause-parses n c = onward (beside (separator at Seen ∷ expr at Seen ∷ []) c.in_ok-expr.ensures.parses) (onward (beside (expr at Seen ∷ []) (c.in_ok-separator.ensures.parses _)) c.expr-2.ensures.parses)

pub object_for-returns-in_err-generator-clause-parses : goal.object_for-returns-in_err-generator-clause-parses
object_for-returns-in_err-generator-clause-parses n c = quits _ c.from_residual.ensures.1 (beside (the FatArrow at Dropped ∷ expr at Dropped ∷ group at Dropped ∷ []) c.in_err-generator.ensures.parses)

pub object_for-returns-in_err-expect-clause-parses : goal.object_for-returns-in_err-expect-clause-parses
object_for-returns-in_err-expect-clause-parses n c = quits _ c.from_residual-in_err-expect.ensures.1 (onward (beside (the FatArrow at Dropped ∷ expr at Dropped ∷ group at Dropped ∷ []) c.in_ok-generator.ensures.parses) (beside (expr at Dropped ∷ group at Dropped ∷ []) (c.in_err-expect.ensures.parses _)))

pub object_for-returns-in_err-expr-clause-parses : goal.object_for-returns-in_err-expr-clause-parses
object_for-returns-in_err-expr-clause-parses n c = quits _ c.from_residual-in_err-expr.ensures.1 (onward (beside (the FatArrow at Dropped ∷ expr at Dropped ∷ group at Dropped ∷ []) c.in_ok-generator.ensures.parses) (onward (beside (expr at Dropped ∷ group at Dropped ∷ []) (c.in_ok-expect.ensures.parses _)) (beside (group at Dropped ∷ []) c.in_err-expr.ensures.parses)))

pub object_for-returns-clause-parses : goal.object_for-returns-clause-parses
object_for-returns-clause-parses n c = onward (beside (the FatArrow at Dropped ∷ expr at Dropped ∷ group at Dropped ∷ []) c.in_ok-generator.ensures.parses) (onward (beside (expr at Dropped ∷ group at Dropped ∷ []) (c.in_ok-expect.ensures.parses _)) (onward (beside (group at Dropped ∷ []) c.in_ok-expr.ensures.parses) (onward (c.group_ellipsis.ensures.leads _) c.object_condition.ensures.parses)))
