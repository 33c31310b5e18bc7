-- A line before its clusters that are left.
use Rattle.std.proofs.Common.{◌≡◌, ◌∙◌, ◌-◌, ◌+◌, ◌≤◌, ℕ, List, suc, zero, [], ◌∷◌, true, ap, arith, drop, length, length-append, refl, sym, take}
use Rattle.std.specs.List.{concat}
use Rattle.std.proofs.lemmas.List.{drop-drop}
use Rattle.std.specs.Str.{IsUtf8}
use Rattle.unicode_segmentation.specs.Grapheme.{graphemes, is_grapheme_break}
use Rattle.unicode_segmentation.proofs.SegmentsLemmas.{concat-segments}
use Rattle.source_snippet.proofs.ClusterLemmas.{parts}
use Rattle.source_snippet.specs.Snippets.{first_clusters}

same_number : (m n : ℕ) (xs : List (List ℕ)) → m ≡ n → drop m xs ≡ drop n xs
same_number m n xs e = ap (λ k. drop k xs) e

dropped_on : (m n : ℕ) (xs : List (List ℕ)) → m ≤ n → drop (n - m) (drop m xs) ≡ drop n xs
dropped_on m n xs h = drop-drop (n - m) m xs ∙ same_number _ n xs (omega (arith, h))

pub passed_on : (line : List ℕ) (passed count : ℕ) (old new : List (List ℕ)) → passed ≤ count → old ≡ drop passed (graphemes true line) → new ≡ drop (count - passed) old → new ≡ drop count (graphemes true line)
passed_on line passed count old new h is more = more ∙ ap (drop (count - passed)) is ∙ dropped_on passed count (graphemes true line) h

pub front_is : (line rest : List ℕ) (count : ℕ) → IsUtf8 line → rest ≡ concat (drop count (graphemes true line)) → length line ≡ length (first_clusters count line) + length rest
front_is line rest count utf8 e =
    ap length (sym (concat-segments (is_grapheme_break true) line utf8) ∙ parts count (graphemes true line)) ∙ length-append (first_clusters count line) (concat (drop count (graphemes true line))) ∙ ap (λ l. length (first_clusters count line) + length l) (sym e)
