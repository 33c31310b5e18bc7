use Rattle.std.proofs.Common.{◌-◌, arith}
use Rattle.tf_rules.proofs.PlaceLemmas.{simple_column, simple_walk}
use Rattle.tf_rules.proofs.cursor.reach_by_bytes.Goals as goal

pub returns-then-offset-anchor-clause-column : goal.returns-then-offset-anchor-clause-column
returns-then-offset-anchor-clause-column c = simple_column c.args.text.now c.args.anchor c.args.offset c.requires.walk c.requires.within c.requires.simple

pub returns-clause-column : goal.returns-clause-column
returns-clause-column c = simple_column c.args.text.now c.args.anchor c.args.offset c.requires.walk c.requires.within c.requires.simple

pub returns-clause-walk : goal.returns-clause-walk
returns-clause-walk c =
    simple_walk c.args.text.now c.args.anchor c.args.offset (c.args.offset - 1) c.utf8.text c.requires.walk c.requires.within c.requires.simple (omega arith) (omega arith)
