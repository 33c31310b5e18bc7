use Rattle.std.proofs.Common.{◌∙◌, ap, rules, sym}
use Rattle.std.specs.Prelude.{not}
use Rattle.tree_words.specs.Vocabularies.{vocabulary_of}
use Rattle.tree_words.specs.WrongWords.{is_name}
use Rattle.tree_words.proofs.WrongWordLemmas.{long_wrong}
use Rattle.tree_words.proofs.wrong.is_wrong.Goals as goal

pub returns-then-not-is_empty : goal.returns-then-not-is_empty
returns-then-not-is_empty c =
    ap not (c.is_name.ensures ∙ ap (is_name (vocabulary_of c.args.of.now)) c.before_value.ensures)
    ∙ sym (long_wrong (vocabulary_of c.args.of.now) c.args.word.now c.in-Some.letters.now c.in-Some-after_dash.option.now c.in-Some.ensures c.in-Some-after_dash.ensures (search rules))
