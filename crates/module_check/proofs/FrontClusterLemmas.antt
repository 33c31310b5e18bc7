-- The first clusters of a line are clusters by themselves.
use Rattle.std.proofs.Common.{◌≡◌, ◌∙◌, ◌++◌, ◌∷◌, [], ℕ, List, Bool, suc, zero, true, false, ap, append_assoc, cond, drop, map, refl, subst, sym, take}
use Rattle.std.specs.Prelude.{◌&&◌, encode_utf8_all}
use Rattle.std.specs.List.{concat}
use Rattle.std.specs.Str.{chars, IsUtf8}
use Rattle.std.proofs.Math.Utf8.{scalar, scalars}
use Rattle.std.proofs.lemmas.List.{take-map}
use Rattle.std.proofs.lemmas.Str.{chars-encodes, encodes-append, scalars-chars}
use Rattle.unicode_segmentation.specs.Grapheme.{graphemes, is_grapheme_break}
use Rattle.unicode_segmentation.specs.Segments.{cut, prepend, segments}
use Rattle.source_snippet.proofs.ClusterLemmas.{parts}
use Rattle.source_snippet.specs.Snippets.{first_clusters}

abbrev rule : List ℕ → List ℕ → Bool
rule = is_grapheme_break true

rule_at_end : (c : ℕ) (before : List ℕ) → rule (c ∷ before) [] ≡ true
unfolding is_grapheme_break
rule_at_end c before = refl

-- of the characters that follow, only the next one matters
rule_by_next : (c next : ℕ) (before xs ys : List ℕ) → rule (c ∷ before) (next ∷ xs) ≡ rule (c ∷ before) (next ∷ ys)
unfolding is_grapheme_break
rule_by_next c next before xs ys = refl

abbrev cut_of : List ℕ → List ℕ → List (List ℕ)
cut_of before cs = cut rule before cs []

abbrev cut_by : Bool → ℕ → List (List ℕ) → List (List ℕ)
cut_by r c ps = cond r ((c ∷ []) ∷ ps) (prepend (c ∷ []) ps)

cut_next : (before : List ℕ) (c : ℕ) (cs : List ℕ) (r : Bool) → rule (c ∷ before) (cs ++ []) ≡ r → cut_of before (c ∷ cs) ≡ cut_by r c (cut_of (c ∷ before) cs)
unfolding cut
cut_next before c cs r e = ap (λ b. cut_by b c (cut_of (c ∷ before) cs)) e

cut_nothing : (before : List ℕ) → cut_of before [] ≡ []
unfolding cut
cut_nothing before = refl

-- a first part begins with the first character
some_front : (before : List ℕ) (d : ℕ) (cs : List ℕ) (k : ℕ) → (us : List ℕ) × (concat (take (suc k) (cut_of before (d ∷ cs))) ≡ d ∷ us)
some_front before d cs k =
    let found = by (rule (d ∷ before) (cs ++ [])) (cut_of (d ∷ before) cs) in
    (found.0, ap (λ ps. concat (take (suc k) ps)) (cut_next before d cs _ refl) ∙ found.1)
  where
    by : (r : Bool) (ps : List (List ℕ)) → (us : List ℕ) × (concat (take (suc k) (cut_by r d ps)) ≡ d ∷ us)
    by true ps = (concat (take k ps), refl)
    by false [] = (concat (take k []), refl)
    by false (p ∷ ps) = (p ++ concat (take k ps), refl)

some_part : (before : List ℕ) (d : ℕ) (cs : List ℕ) → (p : List ℕ) × (ps : List (List ℕ)) × (cut_of before (d ∷ cs) ≡ p ∷ ps)
some_part before d cs =
    let found = by (rule (d ∷ before) (cs ++ [])) (cut_of (d ∷ before) cs) in
    (found.0, found.1, cut_next before d cs _ refl ∙ found.2)
  where
    by : (r : Bool) (qs : List (List ℕ)) → (p : List ℕ) × (ps : List (List ℕ)) × (cut_by r d qs ≡ p ∷ ps)
    by true qs = (d ∷ [], qs, refl)
    by false [] = (d ∷ [], [], refl)
    by false (q ∷ qs) = (d ∷ q, qs, refl)

take_prepend : (c k : ℕ) (p : List ℕ) (ps rs : List (List ℕ)) → rs ≡ p ∷ ps → take (suc k) (prepend (c ∷ []) rs) ≡ prepend (c ∷ []) (take (suc k) rs)
take_prepend c k p ps rs e = subst (λ l. take (suc k) (prepend (c ∷ []) l) ≡ prepend (c ∷ []) (take (suc k) l)) (sym e) refl

concat_prepend : (c k : ℕ) (p : List ℕ) (ps rs : List (List ℕ)) → rs ≡ p ∷ ps → concat (take (suc k) (prepend (c ∷ []) rs)) ≡ c ∷ concat (take (suc k) rs)
concat_prepend c k p ps rs e = subst (λ l. concat (take (suc k) (prepend (c ∷ []) l)) ≡ c ∷ concat (take (suc k) l)) (sym e) refl

abbrev no_parts : List (List ℕ)
no_parts = []

nothing_taken : (k : ℕ) → take k no_parts ≡ no_parts
nothing_taken zero = refl
nothing_taken (suc k) = refl

-- whether a character ends a part is the same before the first parts of what follows
rule_before : (c d : ℕ) (before cs us : List ℕ) (r : Bool) → us ≡ d ∷ cs → (ds : List ℕ) → rule (c ∷ before) (d ∷ (ds ++ [])) ≡ r → rule (c ∷ before) (us ++ []) ≡ r
rule_before c d before cs us r e ds h = subst (λ l. rule (c ∷ before) (l ++ []) ≡ r) (sym e) (rule_by_next c d before (cs ++ []) (ds ++ []) ∙ h)

-- the first parts are cut as they were
pub kept_cut : (k : ℕ) (before cs : List ℕ) → cut_of before (concat (take k (cut_of before cs))) ≡ take k (cut_of before cs)
kept_cut zero before cs = cut_nothing before
kept_cut (suc k) before [] =
    let none : take (suc k) (cut_of before []) ≡ [] = ap (take (suc k)) (cut_nothing before) in
    ap (λ ps. cut_of before (concat ps)) none ∙ cut_nothing before ∙ sym none
kept_cut (suc k) before (c ∷ []) =
    let alone : cut_of before (c ∷ []) ≡ (c ∷ []) ∷ [] = cut_next before c [] true (rule_at_end c before) ∙ ap (λ ps. (c ∷ []) ∷ ps) (cut_nothing (c ∷ before)) in
    let first : take (suc k) (cut_of before (c ∷ [])) ≡ (c ∷ []) ∷ [] = ap (take (suc k)) alone ∙ ap (λ ps. (c ∷ []) ∷ ps) (nothing_taken k) in
    ap (λ ps. cut_of before (concat ps)) first ∙ alone ∙ sym first
kept_cut (suc k) before (c ∷ d ∷ ds) = by (rule (c ∷ before) (d ∷ (ds ++ []))) refl (kept_cut k (c ∷ before) (d ∷ ds)) (kept_cut (suc k) (c ∷ before) (d ∷ ds))
  where
    rest : List (List ℕ)
    rest = cut_of (c ∷ before) (d ∷ ds)

    by : (r : Bool) → rule (c ∷ before) (d ∷ (ds ++ [])) ≡ r → cut_of (c ∷ before) (concat (take k rest)) ≡ take k rest → cut_of (c ∷ before) (concat (take (suc k) rest)) ≡ take (suc k) rest → cut_of before (concat (take (suc k) (cut_of before (c ∷ d ∷ ds)))) ≡ take (suc k) (cut_of before (c ∷ d ∷ ds))
    by true e kept more =
        let is : cut_of before (c ∷ d ∷ ds) ≡ (c ∷ []) ∷ rest = cut_next before c (d ∷ ds) true e in
        let first : take (suc k) (cut_of before (c ∷ d ∷ ds)) ≡ (c ∷ []) ∷ take k rest = ap (take (suc k)) is in
        ap (λ ps. cut_of before (concat ps)) first ∙ cut_next before c (concat (take k rest)) true (ends k) ∙ ap (λ ps. (c ∷ []) ∷ ps) kept ∙ sym first
      where
        ends : (n : ℕ) → rule (c ∷ before) (concat (take n rest) ++ []) ≡ true
        ends zero = rule_at_end c before
        ends (suc n) = let front = some_front (c ∷ before) d ds n in rule_before c d before front.0 (concat (take (suc n) rest)) true front.1 ds e
    by false e kept more =
        let is : cut_of before (c ∷ d ∷ ds) ≡ prepend (c ∷ []) rest = cut_next before c (d ∷ ds) false e in
        let part = some_part (c ∷ before) d ds in
        let front = some_front (c ∷ before) d ds k in
        let first : take (suc k) (cut_of before (c ∷ d ∷ ds)) ≡ prepend (c ∷ []) (take (suc k) rest) = ap (take (suc k)) is ∙ take_prepend c k part.0 part.1 rest part.2 in
        let text : concat (take (suc k) (cut_of before (c ∷ d ∷ ds))) ≡ c ∷ concat (take (suc k) rest) = ap (λ ps. concat (take (suc k) ps)) is ∙ concat_prepend c k part.0 part.1 rest part.2 in
        ap (cut_of before) text ∙ cut_next before c (concat (take (suc k) rest)) false (rule_before c d before front.0 (concat (take (suc k) rest)) false front.1 ds e)
        ∙ ap (prepend (c ∷ [])) more ∙ sym first

-- ---- from characters to bytes

prepend_whole : (part : List ℕ) (ps : List (List ℕ)) → concat (prepend part ps) ≡ part ++ concat ps
prepend_whole part [] = refl
prepend_whole part (p ∷ ps) = append_assoc part p (concat ps)

cut_whole : (before cs : List ℕ) → concat (cut_of before cs) ≡ cs
cut_whole before [] = ap concat (cut_nothing before)
cut_whole before (c ∷ cs) = ap concat (cut_next before c cs _ refl) ∙ by (rule (c ∷ before) (cs ++ [])) ∙ ap (λ l. c ∷ l) (cut_whole (c ∷ before) cs)
  where
    by : (r : Bool) → concat (cut_by r c (cut_of (c ∷ before) cs)) ≡ c ∷ concat (cut_of (c ∷ before) cs)
    by true = refl
    by false = prepend_whole (c ∷ []) (cut_of (c ∷ before) cs)

encoded_parts : (ps : List (List ℕ)) → concat (map encode_utf8_all ps) ≡ encode_utf8_all (concat ps)
encoded_parts [] = refl
encoded_parts (p ∷ ps) = ap (λ l. encode_utf8_all p ++ l) (encoded_parts ps) ∙ sym (encodes-append p (concat ps))

both : (a b c : Bool) → (a && b) ≡ true → (b ≡ true → c ≡ true) → (a && c) ≡ true
both true b c e f = f e
both false b c e f = e

scalar_front : (xs ys : List ℕ) → scalars (xs ++ ys) ≡ true → scalars xs ≡ true
scalar_front [] ys e = refl
scalar_front (x ∷ xs) ys e = both (scalar x) (scalars (xs ++ ys)) (scalars xs) e (scalar_front xs ys)

pub clusters_kept : (k : ℕ) (line : List ℕ) → IsUtf8 line → graphemes true (first_clusters k line) ≡ take k (graphemes true line)
unfolding segments
clusters_kept k line utf8 =
    let all = cut_of [] (chars line) in
    let scalar : scalars (concat (take k all) ++ concat (drop k all)) ≡ true = subst (λ l. scalars l ≡ true) (sym (cut_whole [] (chars line)) ∙ parts k all) (scalars-chars line utf8) in
    let bytes : first_clusters k line ≡ encode_utf8_all (concat (take k all)) = ap concat (take-map encode_utf8_all k all) ∙ encoded_parts (take k all) in
    let letters : chars (first_clusters k line) ≡ concat (take k all) = ap chars bytes ∙ chars-encodes (concat (take k all)) (scalar_front (concat (take k all)) (concat (drop k all)) scalar) in
    ap (λ cs. map encode_utf8_all (cut_of [] cs)) letters ∙ ap (map encode_utf8_all) (kept_cut k [] (chars line)) ∙ sym (take-map encode_utf8_all k all)
