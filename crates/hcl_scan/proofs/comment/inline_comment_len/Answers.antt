use Rattle.std.proofs.Common.{sym, ◌∙◌}
use Rattle.hcl_scan.proofs.CommentTextLemmas.{inline_comment_found, inline_comment_none}
use Rattle.hcl_scan.proofs.comment.inline_comment_len.Goals as goal

pub returns-in-Some-clause-found : goal.returns-in-Some-clause-found
returns-in-Some-clause-found c = inline_comment_found c.args.seen.now c.split_at.result.1.now c.in-Some.end (sym c.starts_with.ensures.value ∙ c.if-not-starts_with.false) c.split_at.ensures.back c.in-Some.ensures.found c.in-Some.ensures.first

pub returns-in-None-clause-none : goal.returns-in-None-clause-none
returns-in-None-clause-none c = inline_comment_none c.args.seen.now c.split_at.result.1.now (sym c.starts_with.ensures.value ∙ c.if-not-starts_with.false) c.split_at.ensures.back c.in-None.ensures.none
