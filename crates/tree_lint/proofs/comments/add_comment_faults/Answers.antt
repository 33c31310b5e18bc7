use Rattle.tf_facts.proofs.PatternLemmas.{there_is}
use Rattle.tree_lint.proofs.CommentLemmas.{one_looked_at}
use Rattle.tree_lint.proofs.comments.add_comment_faults.Goals as goal
use Rattle.std.proofs.Common.{◌<◌, arith, length}

pub loop-number-preserved : goal.loop-number-preserved
loop-number-preserved c =
    let lt : c.loop-number.number < length c.args.tokens.now.tokens = omega (arith, c.len-number-end.ensures.len, c.loop-number-test.true) in
    let here = there_is c.args.tokens.now.tokens c.loop-number.number lt in
    one_looked_at (record { number = c.args.file; source = c.args.tokens.now }) c.args.faults.now.items c.loop-number.faults.items c.loop-number.number c.loop-number.cursor c.loop-number.invariant c.add_of_token.new.faults.items
    c.add_of_token.new.cursor here.0 here.1 c.source.ensures.scanned c.in_ok-add_of_token.ensures.adds c.in_ok-add_of_token.ensures.before
