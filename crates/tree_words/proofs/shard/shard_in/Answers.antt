use Rattle.std.proofs.Common.{Some, None, lit<}
use Rattle.std.proofs.lemmas.Str.Pattern.{split_once_first}
use Rattle.tree_words.proofs.AskedPartLemmas.{no_slash, shard_cut}
use Rattle.tree_words.proofs.shard.shard_in.Goals as goal

pub returns-in-Some : goal.returns-in-Some
returns-in-Some c =
    let cut = split_once_first 47 c.args.text.now (Some (c.in-Some.number, c.in-Some.count)) c.in-Some.ensures.cases (lit< tt) in
    shard_cut c.args.text.now _ _ _ _ _ c.shard_by.ensures c.number_in.ensures c.number_in-in-Some.ensures cut.1 cut.2

pub returns-in-None : goal.returns-in-None
returns-in-None c = no_slash c.args.text.now (split_once_first 47 c.args.text.now None c.in-None.ensures.cases (lit< tt))
