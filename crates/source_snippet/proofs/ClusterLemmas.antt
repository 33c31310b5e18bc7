-- A line before and after a number of its clusters.
use Rattle.std.proofs.Common.{◌≡◌, ◌∙◌, ◌+◌, ◌-◌, ◌≤◌, ℕ, suc, zero, true, List, [], ◌∷◌, ◌++◌, length, take, drop, refl, sym, ap, subst, arith, add-one, length-append, append_assoc}
use Rattle.std.proofs.Math.Seq.{take-append_seam}
use Rattle.std.specs.List.{concat, slice_range}
use Rattle.std.specs.Str.{IsUtf8, IsCharBoundary}
use Rattle.std.proofs.lemmas.Str.{IsCharBoundary-at_seam}
use Rattle.unicode_segmentation.specs.Grapheme.{graphemes, is_grapheme_break}
use Rattle.unicode_segmentation.proofs.SegmentsLemmas.{concat-segments}

pub parts : (n : ℕ) (xs : List (List ℕ)) → concat xs ≡ concat (take n xs) ++ concat (drop n xs)
parts zero xs = refl
parts (suc n) [] = refl
parts (suc n) (x ∷ xs) = ap (λ l. x ++ l) (parts n xs) ∙ sym (append_assoc x (concat (take n xs)) (concat (drop n xs)))

next_dropped : (n : ℕ) (xs : List (List ℕ)) (x : List ℕ) (rest : List (List ℕ)) → drop n xs ≡ x ∷ rest → drop (suc n) xs ≡ rest
next_dropped zero [] x rest e = cc
next_dropped zero (y ∷ xs) x rest e = cc
next_dropped (suc n) [] x rest e = cc
next_dropped (suc n) (y ∷ xs) x rest e = next_dropped n xs x rest e

pub one_more_dropped : (n : ℕ) (xs : List (List ℕ)) (x : List ℕ) (rest : List (List ℕ)) → drop n xs ≡ x ∷ rest → rest ≡ drop (n + 1) xs
one_more_dropped n xs x rest e = sym (ap (λ k. drop k xs) (add-one n) ∙ next_dropped n xs x rest e)

pub all_dropped : (m n : ℕ) (xs : List (List ℕ)) → m ≤ n → drop m xs ≡ [] → drop n xs ≡ []
all_dropped m zero [] h e = refl
all_dropped m (suc n) [] h e = refl
all_dropped zero n (x ∷ xs) h e = cc
all_dropped (suc m) zero (x ∷ xs) h e = absurd (omega (arith, h))
all_dropped (suc m) (suc n) (x ∷ xs) h e = all_dropped m n xs (omega (arith, h)) e

from_front : (xs : List ℕ) (n : ℕ) → slice_range xs 0 n ≡ take n xs
from_front xs n = grind arith

-- the beginning of the text after this many clusters
pub record IsSeam (line before after : List ℕ) : Type 0 where
  pub whole : line ≡ before ++ after
  pub within : length after ≤ length line
  pub boundary : IsCharBoundary line (length line - length after)
  pub front : slice_range line 0 (length line - length after) ≡ before

seam : (line before after : List ℕ) → line ≡ before ++ after → IsUtf8 after → IsSeam line before after
seam line before after e utf8 =
    let sum : length line ≡ length before + length after = ap length e ∙ length-append before after in
    let at : length before ≡ length line - length after = omega (arith, sum) in
    record {
      whole = e;
      within = omega (arith, sum);
      boundary = subst (IsCharBoundary line) at (IsCharBoundary-at_seam line before after e utf8);
      front = from_front line _ ∙ subst (λ n. take n line ≡ before) at (ap (take (length before)) e ∙ take-append_seam before after);
    }

pub cluster_seam : (line after : List ℕ) (n : ℕ) → IsUtf8 line → IsUtf8 after → after ≡ concat (drop n (graphemes true line)) → IsSeam line (concat (take n (graphemes true line))) after
cluster_seam line after n text utf8 e =
    let whole = sym (concat-segments (is_grapheme_break true) line text) ∙ parts n (graphemes true line) in
    seam line (concat (take n (graphemes true line))) after (whole ∙ ap (λ l. concat (take n (graphemes true line)) ++ l) (sym e)) utf8
