use Rattle.std.proofs.Common.{◌∙◌, ap, codes}
use Rattle.clap.proofs.WalkLemmas.{first_value-rows}
use Rattle.clap.specs.Words.{found_of}
use Rattle.tree_words.specs.Line.{shard_given}
use Rattle.tree_words.proofs.shard.shard_of.Goals as goal

pub returns : goal.returns
returns c = c.shard_given.ensures ∙ ap shard_given (c.get_str.ensures ∙ first_value-rows (found_of c.args.matches.now) (codes "shard"))
