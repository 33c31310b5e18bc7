-- What is marked for the place of an offset begins there.
use Rattle.std.proofs.Common.{◌≡◌, ◌∙◌, ◌+◌, ◌-◌, ◌<◌, ◌≤◌, ◌==◌, ◌∷◌, ◌⊎◌, [], ℕ, List, suc, zero, true, ap, arith, drop, inl, inr, length, length-append, refl, subst, sym, take}
use Rattle.std.specs.Prelude.{count_by}
use Rattle.std.specs.List.{after_first, concat}
use Rattle.std.specs.Str.{IsUtf8}
use Rattle.std.proofs.Math.ListN.{drop_of_length-le}
use Rattle.std.proofs.lemmas.Bool.Decides.{nat_tests}
use Rattle.std.proofs.lemmas.List.{length-drop}
use Rattle.std.proofs.lemmas.List.Sums.{passes_at_first}
use Rattle.std.proofs.lemmas.Str.{IsCharBoundary-after_ascii, IsUtf8-drop, IsUtf8-nil, IsUtf8-take}
use Rattle.hcl_source.specs.Places.{line_before, line_of, place}
use Rattle.unicode_segmentation.specs.Grapheme.{graphemes}
use Rattle.source_snippet.proofs.LineLemmas.{line_boundary, line_len}
use Rattle.source_snippet.specs.Snippets.{after_lines, first_clusters, nth_line}
use Rattle.module_check.specs.Marks.{BeginsCluster, marked_from}
use Rattle.module_check.proofs.FrontClusterLemmas.{clusters_kept}
use Rattle.module_check.proofs.LineStartLemmas.{line_at}

lf : (b : ℕ) → (b == 10) ≡ true → b ≡ 10
lf b e = grind (arith, nat_tests)

apart : (a b : ℕ) → (a < b) ⊎ (b ≤ a)
apart a b = grind arith

after_utf8 : (text : List ℕ) → IsUtf8 text → IsUtf8 (after_first (λ b. b == 10) text)
after_utf8 text utf8 = by (apart (line_len text) (length text))
  where
    by : (line_len text < length text) ⊎ (length text ≤ line_len text) → IsUtf8 (after_first (λ b. b == 10) text)
    by (inl h) = IsUtf8-drop text (line_len text + 1) utf8 (IsCharBoundary-after_ascii text (line_len text) utf8 h (omega (arith, lf _ (passes_at_first (λ b. b == 10) text 0 h))))
    by (inr h) = subst IsUtf8 (sym (drop_of_length-le text {i = line_len text + 1} (omega (arith, h)))) IsUtf8-nil

rest_utf8 : (n : ℕ) (text : List ℕ) → IsUtf8 text → IsUtf8 (after_lines n text)
rest_utf8 zero text utf8 = utf8
rest_utf8 (suc n) text utf8 = after_utf8 (after_lines n text) (rest_utf8 n text utf8)

line_utf8 : (n : ℕ) (text : List ℕ) → IsUtf8 text → IsUtf8 (nth_line n text)
line_utf8 n text utf8 =
    let rest = after_lines (n - 1) text in
    let is = rest_utf8 (n - 1) text utf8 in
    IsUtf8-take rest (line_len rest) is (line_boundary rest is)

taken_again : (n : ℕ) (xs : List (List ℕ)) → take (length (take n xs)) xs ≡ take n xs
taken_again zero xs = refl
taken_again (suc n) [] = refl
taken_again (suc n) (x ∷ xs) = ap (λ l. x ∷ l) (taken_again n xs)

-- as many clusters as the first ones have are these
same_clusters : (k : ℕ) (line : List ℕ) → IsUtf8 line → first_clusters (length (graphemes true (first_clusters k line))) line ≡ first_clusters k line
same_clusters k line utf8 = ap (λ gs. first_clusters (length gs) line) (clusters_kept k line utf8) ∙ ap concat (taken_again k (graphemes true line))

one_less : (n : ℕ) → (1 + n) - 1 ≡ n
one_less n = omega arith

pub marks_begin : (text : List ℕ) (at : ℕ) → IsUtf8 text → at ≤ length text → BeginsCluster text at → marked_from text (place text at) ≡ at
marks_begin text at utf8 within begins =
    let line = nth_line (line_of text at) text in
    let before = line_before text at in
    let found = line_at text at within in
    let rest : length (after_lines (line_of text at - 1) text) ≡ length before + length (drop at text) =
    ap (λ n. length (after_lines n text)) (one_less (count_by (λ b. b == 10) (take at text))) ∙ ap length found.after ∙ length-append before (drop at text) in
    let columns : first_clusters ((1 + length (graphemes true before)) - 1) line ≡ before =
    ap (λ n. first_clusters n line) (one_less (length (graphemes true before))) ∙ ap (λ l. first_clusters (length (graphemes true l)) line) begins.1
    ∙ same_clusters begins.0 line (line_utf8 (line_of text at) text utf8) ∙ sym begins.1 in
    omega (arith, rest, ap length columns, found.starts, length-drop at text, within)
