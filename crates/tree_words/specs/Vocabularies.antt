-- The view of a vocabulary, with which a program finds and explains a wrong word.
use Rattle.std.specs.Prelude.{map}
use Rattle.tree_words.specs.WrongWords.{Foreign, Vocabulary}
use Rattle.tree_words.specs.declared.vocabulary.Foreign.{Foreign as ForeignOption}
use Rattle.tree_words.specs.declared.vocabulary.Vocabulary.{Vocabulary as OptionWords}

abbrev pub foreign_of : ForeignOption → Foreign
foreign_of f = record { option = f.option.now; hint = f.hint.now }

abbrev pub vocabulary_of : OptionWords → Vocabulary
vocabulary_of v = record {
  names = map (λ name. name.now) v.names.now;
  letters = v.letters.now;
  error = v.error.now;
  foreign = map foreign_of v.foreign.now;
  usage = v.usage.now;
}
