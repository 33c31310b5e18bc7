use Rattle.tf_rules.proofs.StatementLemmas.{listed_is}
use Rattle.tf_rules.proofs.issue_list.listed_issue_of.Goals as goal

pub returns : goal.returns
returns c = listed_is c.args.entry c.message_parts.result c.message_parts.ensures
