use Rattle.std.proofs.Common.{◌≡◌, ◌∷◌, map, take}
use Rattle.std.specs.Prelude.{filter, not}
use Rattle.std.specs.Str.{is_utf8}
use Rattle.tree_words.proofs.words.words_of.Given as goal

abbrev pub invariant-loop-word : goal.invariant-loop-word
invariant-loop-word l =
    (map (λ text. text.now) l.of.texts.items ≡ l.program ∷ filter is_utf8 (map (λ word. word.now) (take l.word-index l.rest)))
    × (map (λ word. word.now) l.of.others.items ≡ filter (λ word. not (is_utf8 word)) (map (λ word. word.now) (take l.word-index l.rest)))
