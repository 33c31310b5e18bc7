use Rattle.std.proofs.Common.{◌∙◌, ap, sym, cond}
use Rattle.hcl_tokens.specs.Kinds.{is}
use Rattle.hcl_tokens.specs.Balanced.{nesting}
use Rattle.hcl_tokens.specs.declared.token.Kind.TheVariants as kind
use Rattle.hcl_syntax.proofs.SegmentEndLemmas.{closes_is, neither_is, opens_is, top_closes, top_flat, top_opens}
use Rattle.hcl_syntax.proofs.segment_end.pass.Goals as goal

pub returns-then-not-changes_depth : goal.returns-then-not-changes_depth
returns-then-not-changes_depth c = λ ts t count at means.
    top_flat ts c.args.number t at c.args.rest.now.items c.args.top c.newline_or.result (ap nesting (sym means) ∙ neither_is (nesting c.args.kind) (sym c.changes_depth.ensures ∙ c.if-not-changes_depth.true))
    (c.newline_or.ensures ∙ ap (λ k. cond (is kind.Newline k) c.args.number c.args.top) means)

pub returns-then-is_opener : goal.returns-then-is_opener
returns-then-is_opener c = λ ts t count at means.
    top_opens ts c.args.number t at c.args.rest.now.items c.args.top c.take_last.new.numbers.items c.take_last.result c.args.count count (ap nesting (sym means) ∙ opens_is (nesting c.args.kind) (sym c.is_opener.ensures ∙ c.if-is_opener.true)) c.take_last.ensures.taken
    c.take_last.ensures.left

pub returns : goal.returns
returns c = λ ts t count at means.
    top_closes ts c.args.number t at c.args.rest.now.items c.args.top c.push.new.self.items
    (ap nesting (sym means) ∙ closes_is (nesting c.args.kind) (sym c.changes_depth.ensures ∙ c.if-not-changes_depth.false) (sym c.is_opener.ensures ∙ c.if-is_opener.false)) c.in_ok-push.ensures.items
