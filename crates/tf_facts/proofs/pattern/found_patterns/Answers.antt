use Rattle.std.proofs.Common.{◌∙◌, ◌-◌, false, refl, sym, arith}
use Rattle.tf_facts.proofs.ClosingLemmas.{no_comment, past, past_comment}
use Rattle.tf_facts.proofs.CommentLemmas.{comments_begin, comments_end, comments_noted, comments_over}
use Rattle.tf_facts.proofs.PatternLemmas.{walk_begins, walk_closer, walk_dot, walk_opener, walk_past, walk_plain, walk_quote}
use Rattle.tf_facts.proofs.pattern.found_patterns.Goals as goal

pub loop-number-preserved-in-PassedOver : goal.loop-number-preserved-in-PassedOver
loop-number-preserved-in-PassedOver c = record {
  walked =
      walk_past c.args.tokens.now.tokens (c.loop-number.number - 1) c.loop-number.number (omega arith) c.loop-number.indexes.items c.loop-number.interpolations.items c.loop-number.openers.items c.loop-number.next c.loop-number.is_closed c.loop-number.invariant.walked c.kind-kind.result c.kind-kind.ensures
      (past c.kind-kind.result (sym c.role_of.ensures ∙ c.in-PassedOver.is));
  said = comments_over c.args.tokens.now.tokens (c.loop-number.number - 1) c.loop-number.number (omega arith) (omega (arith, c.loop-number.invariant.walked.within)) c.loop-number.comments.items c.loop-number.invariant.said c.kind-kind.result c.kind-kind.ensures (no_comment _ _ (sym c.role_of.ensures ∙ c.in-PassedOver.is) (λ e. absurd (cc)));
}

pub loop-number-preserved-in-LineComment : goal.loop-number-preserved-in-LineComment
loop-number-preserved-in-LineComment c = record {
  walked =
      walk_past c.args.tokens.now.tokens (c.loop-number.number - 1) c.loop-number.number (omega arith) c.loop-number.indexes.items c.loop-number.interpolations.items c.loop-number.openers.items c.loop-number.next c.loop-number.is_closed c.loop-number.invariant.walked c.kind-kind.result c.kind-kind.ensures
      (past_comment c.kind-kind.result (sym c.role_of.ensures ∙ c.in-LineComment.is));
  said = comments_noted c.args.tokens.now.tokens (c.loop-number.number - 1) c.loop-number.number (omega arith) (omega (arith, c.loop-number.invariant.walked.within)) c.loop-number.comments.items c.loop-number.invariant.said c.push_comment.new.found.items c.in_ok-push_comment-in-LineComment.ensures;
}

pub loop-number-preserved-in-Plain : goal.loop-number-preserved-in-Plain
loop-number-preserved-in-Plain c = record {
  walked =
      walk_plain c.args.tokens.now.tokens (c.loop-number.number - 1) c.loop-number.number (omega arith) c.loop-number.indexes.items c.loop-number.interpolations.items c.loop-number.openers.items c.loop-number.next c.loop-number.is_closed c.loop-number.invariant.walked c.kind-kind.result c.kind-kind.ensures
      (sym c.role_of.ensures ∙ c.in-Plain.is);
  said = comments_over c.args.tokens.now.tokens (c.loop-number.number - 1) c.loop-number.number (omega arith) (omega (arith, c.loop-number.invariant.walked.within)) c.loop-number.comments.items c.loop-number.invariant.said c.kind-kind.result c.kind-kind.ensures (no_comment _ _ (sym c.role_of.ensures ∙ c.in-Plain.is) (λ e. absurd (cc)));
}

pub loop-number-preserved-in_ok-push_if-in-Dot : goal.loop-number-preserved-in_ok-push_if-in-Dot
loop-number-preserved-in_ok-push_if-in-Dot c = record {
  walked =
      walk_dot c.args.tokens.now.tokens (c.loop-number.number - 1) c.loop-number.number (omega arith) c.loop-number.indexes.items c.loop-number.interpolations.items c.loop-number.openers.items c.loop-number.next c.loop-number.is_closed c.loop-number.invariant.walked c.kind-kind.result c.kind-kind.ensures
      c.push_if.new.list.items c.is_number.result (sym c.role_of.ensures ∙ c.in-Dot.is) c.is_number.ensures c.in_ok-push_if-in-Dot.ensures;
  said = comments_over c.args.tokens.now.tokens (c.loop-number.number - 1) c.loop-number.number (omega arith) (omega (arith, c.loop-number.invariant.walked.within)) c.loop-number.comments.items c.loop-number.invariant.said c.kind-kind.result c.kind-kind.ensures (no_comment _ _ (sym c.role_of.ensures ∙ c.in-Dot.is) (λ e. absurd (cc)));
}

pub loop-number-preserved-in_ok-push_if-in-QuoteOpen : goal.loop-number-preserved-in_ok-push_if-in-QuoteOpen
loop-number-preserved-in_ok-push_if-in-QuoteOpen c = record {
  walked =
      walk_quote c.args.tokens.now.tokens (c.loop-number.number - 1) c.loop-number.number (omega arith) c.loop-number.indexes.items c.loop-number.interpolations.items c.loop-number.openers.items c.loop-number.next c.loop-number.is_closed c.loop-number.invariant.walked c.kind-kind.result c.kind-kind.ensures
      c.push_if-in-QuoteOpen.new.list.items c.is_interpolation.result (sym c.role_of.ensures ∙ c.in-QuoteOpen.is) c.is_interpolation.ensures c.in_ok-push_if-in-QuoteOpen.ensures;
  said = comments_over c.args.tokens.now.tokens (c.loop-number.number - 1) c.loop-number.number (omega arith) (omega (arith, c.loop-number.invariant.walked.within)) c.loop-number.comments.items c.loop-number.invariant.said c.kind-kind.result c.kind-kind.ensures (no_comment _ _ (sym c.role_of.ensures ∙ c.in-QuoteOpen.is) (λ e. absurd (cc)));
}

pub loop-number-preserved-in-Opens : goal.loop-number-preserved-in-Opens
loop-number-preserved-in-Opens c = record {
  walked =
      walk_opener c.args.tokens.now.tokens (c.loop-number.number - 1) c.loop-number.number (omega arith) c.loop-number.indexes.items c.loop-number.interpolations.items c.loop-number.openers.items c.loop-number.next c.loop-number.is_closed c.loop-number.invariant.walked c.kind-kind.result c.kind-kind.ensures
      c.take_last-is_closed.new.flags.items c.take_last-is_closed.result (sym c.role_of.ensures ∙ c.in-Opens.is) c.take_last-is_closed.ensures.taken c.take_last-is_closed.ensures.left;
  said = comments_over c.args.tokens.now.tokens (c.loop-number.number - 1) c.loop-number.number (omega arith) (omega (arith, c.loop-number.invariant.walked.within)) c.loop-number.comments.items c.loop-number.invariant.said c.kind-kind.result c.kind-kind.ensures (no_comment _ _ (sym c.role_of.ensures ∙ c.in-Opens.is) (λ e. absurd (cc)));
}

pub loop-number-preserved : goal.loop-number-preserved
loop-number-preserved c = record {
  walked =
      walk_closer c.args.tokens.now.tokens (c.loop-number.number - 1) c.loop-number.number (omega arith) c.loop-number.indexes.items c.loop-number.interpolations.items c.loop-number.openers.items c.loop-number.next c.loop-number.is_closed c.loop-number.invariant.walked c.kind-kind.result c.kind-kind.ensures
      c.push.new.self.items c.is_quote_close.result (sym c.role_of.ensures ∙ c.in-Closes.is) c.is_quote_close.ensures c.in_ok-push-in-Closes.ensures.items;
  said = comments_over c.args.tokens.now.tokens (c.loop-number.number - 1) c.loop-number.number (omega arith) (omega (arith, c.loop-number.invariant.walked.within)) c.loop-number.comments.items c.loop-number.invariant.said c.kind-kind.result c.kind-kind.ensures (no_comment _ _ (sym c.role_of.ensures ∙ c.in-Closes.is) (λ e. absurd (cc)));
}

pub loop-number-init : goal.loop-number-init
loop-number-init c = record {
  walked =
      walk_begins c.args.tokens.now.tokens c.len-number.result c.new-indexes.result.items c.new-interpolations.result.items c.new-openers.result.items _ false c.len-number.ensures.len c.new-indexes.ensures.items
      c.new-interpolations.ensures.items c.new-openers.ensures.items refl;
  said = comments_begin c.args.tokens.now.tokens c.new-comments.result.items c.len-number.result (omega (arith, c.len-number.ensures.len)) c.new-comments.ensures.items;
}

pub returns-clause-comments : goal.returns-clause-comments
returns-clause-comments c =
    comments_end c.args.tokens.now.tokens c.loop-number.comments.items c.in_order.result.comments.items c.loop-number.number (omega (arith, c.loop-number-test.false)) c.in_order.ensures.comments c.loop-number.invariant.said
