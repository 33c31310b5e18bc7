use Rattle.std.proofs.Common.{◌∙◌, rules}
use Rattle.tree_words.proofs.AskedPartLemmas.{number_read}
use Rattle.tree_words.proofs.number.number_in.Goals as goal

pub returns : goal.returns
returns c = c.ok.ensures.value ∙ number_read c.args.text.now c.parse.result c.parse.ensures.value.0 (search rules)
