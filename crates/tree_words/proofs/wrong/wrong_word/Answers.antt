use Rattle.std.proofs.Common.{◌∙◌, Some, None, ap}
use Rattle.std.specs.Prelude.{option_and_then}
use Rattle.tree_words.specs.Vocabularies.{vocabulary_of}
use Rattle.tree_words.specs.WrongWords.{unless_end}
use Rattle.tree_words.proofs.WrongWordLemmas.{first_read}
use Rattle.tree_words.proofs.wrong.wrong_word.Goals as goal

pub returns-in-Some : goal.returns-in-Some
returns-in-Some c =
    c.unless_end.ensures
    ∙ ap (option_and_then unless_end) (first_read (vocabulary_of c.args.of.now) c.args.words.now c.after_first.result.now (Some c.in-Some.word) c.after_first.ensures c.in-Some.ensures)

pub returns-in-None : goal.returns-in-None
returns-in-None c =
    ap (option_and_then unless_end) (first_read (vocabulary_of c.args.of.now) c.args.words.now c.after_first.result.now None c.after_first.ensures c.in-None.ensures)
