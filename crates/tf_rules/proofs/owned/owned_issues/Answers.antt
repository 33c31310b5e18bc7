use Rattle.std.proofs.Common.{arith}
use Rattle.tf_rules.proofs.EntryLemmas.{all_taken, one_taken}
use Rattle.tf_rules.proofs.owned.owned_issues.Goals as goal

pub loop-number-preserved : goal.loop-number-preserved
loop-number-preserved c =
    one_taken c.args.list.now c.loop-number.number c.in_ok-issue.issue _ c.loop-number.issues.items c.push.new.self.items c.get.ensures c.in_ok-issue.ensures c.in_ok-push.ensures.items c.loop-number.invariant

pub returns : goal.returns
returns c = all_taken c.args.list.now c.loop-number.number c.loop-number.issues.items (omega (arith, c.loop-number-test.false, c.len-number-end.ensures)) c.loop-number.invariant
