use Rattle.std.specs.Prelude.{None, Some}
use Rattle.tree_words.proofs.WrongWordLemmas.{hint_read}
use Rattle.tree_words.proofs.wrong.foreign_hint.Goals as goal

pub returns-in-Some : goal.returns-in-Some
returns-in-Some c = hint_read c.args.word.now c.args.of.now.foreign.now (Some c.in-Some.foreign.now) c.in-Some.ensures

pub returns-in-None : goal.returns-in-None
returns-in-None c = hint_read c.args.word.now c.args.of.now.foreign.now None c.in-None.ensures
