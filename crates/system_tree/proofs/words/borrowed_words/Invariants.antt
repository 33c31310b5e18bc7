use Rattle.std.proofs.Common.{◌≡◌, map, take}
use Rattle.system_tree.proofs.words.borrowed_words.Given as goal

abbrev pub invariant-loop-word : goal.invariant-loop-word
invariant-loop-word l = map (λ word. word.now) l.borrowed.items ≡ map (λ word. word.items) (take l.word-index l.words)
