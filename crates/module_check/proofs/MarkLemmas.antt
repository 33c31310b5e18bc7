-- A mark is within its text.
use Rattle.std.proofs.Common.{◌+◌, ◌≤◌, ◌∷◌, ◌==◌, [], ℕ, List, suc, zero, arith, drop, length, length-append, take, true}
use Rattle.std.specs.List.{before_first, concat, position_or_len}
use Rattle.unicode_segmentation.specs.Grapheme.{graphemes}
use Rattle.source_snippet.specs.Snippets.{after_lines, first_clusters}

drop_short : (n : ℕ) (xs : List ℕ) → length (drop n xs) ≤ length xs
drop_short zero xs = omega arith
drop_short (suc n) [] = omega arith
drop_short (suc n) (x ∷ xs) = omega (arith, drop_short n xs)

take_short : (n : ℕ) (xs : List ℕ) → length (take n xs) ≤ length xs
take_short zero xs = omega arith
take_short (suc n) [] = omega arith
take_short (suc n) (x ∷ xs) = omega (arith, take_short n xs)

pub after_short : (n : ℕ) (text : List ℕ) → length (after_lines n text) ≤ length text
after_short zero text = omega arith
after_short (suc n) text = omega (arith, after_short n text, drop_short (position_or_len (λ b. b == 10) (after_lines n text) + 1) (after_lines n text))

pub line_short : (rest : List ℕ) → length (before_first (λ b. b == 10) rest) ≤ length rest
line_short rest = take_short (position_or_len (λ b. b == 10) rest) rest

parts_grow : (m n : ℕ) (xs : List (List ℕ)) → m ≤ n → length (concat (take m xs)) ≤ length (concat (take n xs))
parts_grow zero n xs h = omega arith
parts_grow (suc m) zero xs h = absurd (omega (arith, h))
parts_grow (suc m) (suc n) [] h = omega arith
parts_grow (suc m) (suc n) (x ∷ xs) h = omega (arith, parts_grow m n xs (omega (arith, h)), length-append x (concat (take m xs)), length-append x (concat (take n xs)))

pub clusters_grow : (m n : ℕ) (line : List ℕ) → m ≤ n → length (first_clusters m line) ≤ length (first_clusters n line)
clusters_grow m n line h = parts_grow m n (graphemes true line) h
