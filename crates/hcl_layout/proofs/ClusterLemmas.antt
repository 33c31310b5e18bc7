-- A text has no more grapheme clusters than bytes; as many as characters if each is a cluster by itself; and as many as
-- bytes if it is ASCII without CR.
use Rattle.std.proofs.Common.{IsUtf8, cond, get_or, not, one-add, subst, length-append, length-take-le, ◌≡◌, ◌∙◌, ◌+◌, ◌-◌, ◌*◌, ◌≤◌, ◌<◌, ◌==◌, ◌&&◌, ap, ap₂, sym, refl, true≢false, ℕ, suc, zero, Bool, true, false, List, [], ◌∷◌, length, arith, drop, take, add-one, inl, inr}
use Rattle.std.specs.Prelude.{encode_utf8_all, ◌++◌, ◌||◌, map, nat_le, nat_lt, unwrap_or}
use Rattle.hcl_layout.specs.Inner.Simple.{IsFrom, are_alone, first_alone, further_alone, is_alone, is_simple, is_simple_byte, within_any}
use Rattle.hcl_source.proofs.SimpleLemmas.{Breaks, clusters_disjoint, clusters_simple, simple_parts}
use Rattle.std.proofs.lemmas.List.{length-map, take-append-drop}
use Rattle.std.proofs.lemmas.List.Folds.{list_all-append}
use Rattle.std.proofs.lemmas.List.Sums.{prefix_len-le-length, prefix_len_passes}
use Rattle.std.specs.List.{prefix_len}
use Rattle.std.proofs.lemmas.Str.{IsCharBoundary-after_ascii, IsCharBoundary-start, IsUtf8-from_ascii, chars-IsAscii, chars-append}
use Rattle.std.proofs.lemmas.Bool.{and_from, and_parts, and_right, cases_lt, le-leb, not-true, or_left, or_right}
use Rattle.std.proofs.lemmas.Bool.Decides.{nat_tests}
use Rattle.std.specs.Str.{IsAscii, IsCharBoundary, chars, chars_after, continuation_len, lead_bits}
use Rattle.ucd_breaks.specs.GraphemeClusterBreak.{grapheme_cluster_break}
use Rattle.ucd_breaks.specs.declared.GraphemeClusterBreak.{GraphemeClusterBreak}
use Rattle.ucd_breaks.specs.declared.GraphemeClusterBreak.TheVariants.{Control, Cr, Extend, L, Lf, Lv, Lvt, Prepend, RegionalIndicator, SpacingMark, T, V, Other, Zwj}
use Rattle.ucd_breaks.proofs.GraphemeClusterBreakLemmas.{grapheme_cluster_break_stepped}
use Rattle.ucd_derived.specs.IndicConjunctBreak.{indic_conjunct_break}
use Rattle.ucd_derived.specs.declared.IndicConjunctBreak.{IndicConjunctBreak}
use Rattle.ucd_derived.proofs.IndicConjunctBreakLemmas.{indic_conjunct_break_stepped}
use Rattle.ucd_table.specs.Rows.{Range, in_ranges}
use Rattle.ucd_table.proofs.Computing.{tables}
use Rattle.ucd_table.proofs.Facts.{Stepped-everywhere}
use Rattle.ucd_table.proofs.Stepped.{of_ranges, zip_stepped}
use Rattle.unicode_segmentation.specs.Grapheme.{break_by_pair, ends_in_half_flag, ends_in_linker, graphemes, is_consonant, is_grapheme_break, is_regional, is_zwj, joins_conjunct, joins_emoji, joins_flag}
use Rattle.unicode_segmentation.proofs.GraphemeLemmas.{is_grapheme_break-inside, joins_emoji-not_zwj}
use Rattle.unicode_segmentation.specs.Segments.{Rule, cut, prepend, segments}

chars_after_few : (bs : List ℕ) (n c : ℕ) → length (chars_after n c bs) ≤ 1 + length bs
chars_after_few [] zero c = omega arith
chars_after_few [] (suc n) c = omega arith
chars_after_few (b ∷ bs) zero c = omega (arith, chars_after_few bs (continuation_len b) (lead_bits b))
chars_after_few (b ∷ bs) (suc n) c = omega (arith, chars_after_few bs n (c * 64 + (b - 128)))

pub chars_few : (bs : List ℕ) → length (chars bs) ≤ length bs
unfolding chars
chars_few [] = omega arith
chars_few (b ∷ bs) = omega (arith, chars_after_few bs (continuation_len b) (lead_bits b))

prepend_few : (part : List ℕ) (pieces : List (List ℕ)) → length (prepend part pieces) ≤ 1 + length pieces
prepend_few part [] = omega arith
prepend_few part (p ∷ ps) = omega arith

cut_few : (rule : Rule) (before cs after : List ℕ) → length (cut rule before cs after) ≤ length cs
unfolding cut
cut_few rule before [] after = omega arith
cut_few rule before (c ∷ cs) after = go (cut_few rule (c ∷ before) cs after) (rule (c ∷ before) (cs ++ after)) refl
  where
    go : length (cut rule (c ∷ before) cs after) ≤ length cs → (v : Bool) → rule (c ∷ before) (cs ++ after) ≡ v → length (cut rule before (c ∷ cs) after) ≤ length (c ∷ cs)
    go r true e = rw e (omega arith)
    go r false e = rw e (omega (arith, prepend_few (c ∷ []) (cut rule (c ∷ before) cs after)))

pub clusters_few : (text : List ℕ) → length (graphemes true text) ≤ length text
unfolding segments
clusters_few text =
    omega (arith, length-map (cut (is_grapheme_break true) [] (chars text) []) encode_utf8_all, cut_few (is_grapheme_break true) [] (chars text) [], chars_few text)

-- ---- characters that are clusters by themselves

-- classes that break on both sides, apart from the ends of lines and the rules that look further back
abbrev lone : GraphemeClusterBreak → Bool
lone Other = true
lone Control = true
lone Lf = true
lone _ = false

abbrev alone_ranges : List Range
alone_ranges = first_alone ∷ further_alone

within_any_is : (r : Range) (rs : List Range) (c : ℕ) → within_any r rs c ≡ in_ranges (r ∷ rs) c
unfolding in_ranges
within_any_is r [] c = or_false (nat_le r.0 c && nat_le c r.1)
  where
    or_false : (v : Bool) → v ≡ (v || false)
    or_false true = refl
    or_false false = refl
within_any_is r (s ∷ rs) c = ap (λ v. (nat_le r.0 c && nat_le c r.1) || v) (within_any_is s rs c)

-- the tables have such classes in the ranges, and no consonant of GB9c
abbrev disjoint : Bool → GraphemeClusterBreak → IndicConjunctBreak → Bool
disjoint within class conjunct = not within || (lone class && not (is_consonant conjunct))

alone_disjoint : (c : ℕ) → disjoint (in_ranges alone_ranges c) (grapheme_cluster_break c) (indic_conjunct_break c) ≡ true
unfolding tables grapheme_cluster_break_stepped indic_conjunct_break_stepped
alone_disjoint =
    let class = λ (b : GraphemeClusterBreak) (i : IndicConjunctBreak). lone b && not (is_consonant i) in
    let classes = zip_stepped class grapheme_cluster_break indic_conjunct_break grapheme_cluster_break_stepped indic_conjunct_break_stepped in
    let either = λ (within fine : Bool). not within || fine in
    let steps = zip_stepped either (in_ranges alone_ranges) (λ c. class (grapheme_cluster_break c) (indic_conjunct_break c)) (of_ranges alone_ranges refl) classes in
    Stepped-everywhere (λ c. either (in_ranges alone_ranges c) (class (grapheme_cluster_break c) (indic_conjunct_break c))) steps refl

alone_class : (c : ℕ) → is_alone c ≡ true → (lone (grapheme_cluster_break c) ≡ true) × (is_consonant (indic_conjunct_break c) ≡ false)
alone_class c e = go (in_ranges alone_ranges c) (sym (within_any_is first_alone further_alone c) ∙ e) (alone_disjoint c)
  where
    go : (v : Bool) → v ≡ true → disjoint v (grapheme_cluster_break c) (indic_conjunct_break c) ≡ true → (lone (grapheme_cluster_break c) ≡ true) × (is_consonant (indic_conjunct_break c) ≡ false)
    go true p h =
        let parts = and_parts (lone (grapheme_cluster_break c)) (not (is_consonant (indic_conjunct_break c))) h in
        (parts.0, not-true (is_consonant (indic_conjunct_break c)) parts.1)
    go false p h = absurd (true≢false (sym p))

-- whether two characters of these classes break, given the answer of the tables' further rules
pair_breaks : (l r : GraphemeClusterBreak) (more : Bool) → lone l ≡ true → lone r ≡ true → (Other ≡ l → Other ≡ r → more ≡ true) → unwrap_or (break_by_pair true l r) more ≡ true
pair_breaks Control Control more p q f = refl
pair_breaks Control Cr more p q f = absurd (true≢false (sym q))
pair_breaks Control Extend more p q f = absurd (true≢false (sym q))
pair_breaks Control L more p q f = absurd (true≢false (sym q))
pair_breaks Control Lf more p q f = refl
pair_breaks Control Lv more p q f = absurd (true≢false (sym q))
pair_breaks Control Lvt more p q f = absurd (true≢false (sym q))
pair_breaks Control Prepend more p q f = absurd (true≢false (sym q))
pair_breaks Control RegionalIndicator more p q f = absurd (true≢false (sym q))
pair_breaks Control SpacingMark more p q f = absurd (true≢false (sym q))
pair_breaks Control T more p q f = absurd (true≢false (sym q))
pair_breaks Control V more p q f = absurd (true≢false (sym q))
pair_breaks Control Other more p q f = refl
pair_breaks Control Zwj more p q f = absurd (true≢false (sym q))
pair_breaks Cr r more p q f = absurd (true≢false (sym p))
pair_breaks Extend r more p q f = absurd (true≢false (sym p))
pair_breaks L r more p q f = absurd (true≢false (sym p))
pair_breaks Lf Control more p q f = refl
pair_breaks Lf Cr more p q f = absurd (true≢false (sym q))
pair_breaks Lf Extend more p q f = absurd (true≢false (sym q))
pair_breaks Lf L more p q f = absurd (true≢false (sym q))
pair_breaks Lf Lf more p q f = refl
pair_breaks Lf Lv more p q f = absurd (true≢false (sym q))
pair_breaks Lf Lvt more p q f = absurd (true≢false (sym q))
pair_breaks Lf Prepend more p q f = absurd (true≢false (sym q))
pair_breaks Lf RegionalIndicator more p q f = absurd (true≢false (sym q))
pair_breaks Lf SpacingMark more p q f = absurd (true≢false (sym q))
pair_breaks Lf T more p q f = absurd (true≢false (sym q))
pair_breaks Lf V more p q f = absurd (true≢false (sym q))
pair_breaks Lf Other more p q f = refl
pair_breaks Lf Zwj more p q f = absurd (true≢false (sym q))
pair_breaks Lv r more p q f = absurd (true≢false (sym p))
pair_breaks Lvt r more p q f = absurd (true≢false (sym p))
pair_breaks Prepend r more p q f = absurd (true≢false (sym p))
pair_breaks RegionalIndicator r more p q f = absurd (true≢false (sym p))
pair_breaks SpacingMark r more p q f = absurd (true≢false (sym p))
pair_breaks T r more p q f = absurd (true≢false (sym p))
pair_breaks V r more p q f = absurd (true≢false (sym p))
pair_breaks Other Control more p q f = refl
pair_breaks Other Cr more p q f = absurd (true≢false (sym q))
pair_breaks Other Extend more p q f = absurd (true≢false (sym q))
pair_breaks Other L more p q f = absurd (true≢false (sym q))
pair_breaks Other Lf more p q f = refl
pair_breaks Other Lv more p q f = absurd (true≢false (sym q))
pair_breaks Other Lvt more p q f = absurd (true≢false (sym q))
pair_breaks Other Prepend more p q f = absurd (true≢false (sym q))
pair_breaks Other RegionalIndicator more p q f = absurd (true≢false (sym q))
pair_breaks Other SpacingMark more p q f = absurd (true≢false (sym q))
pair_breaks Other T more p q f = absurd (true≢false (sym q))
pair_breaks Other V more p q f = absurd (true≢false (sym q))
pair_breaks Other Other more p q f = f refl refl
pair_breaks Other Zwj more p q f = absurd (true≢false (sym q))
pair_breaks Zwj r more p q f = absurd (true≢false (sym p))

-- the rules that look further back separate two characters if the second is no consonant
others_break : (c n : ℕ) (before : List ℕ) → Other ≡ grapheme_cluster_break c → Other ≡ grapheme_cluster_break n → is_consonant (indic_conjunct_break n) ≡ false
    → not ((true && joins_conjunct (c ∷ before) n) || joins_emoji (c ∷ before) n || joins_flag (c ∷ before) n) ≡ true
others_break c n before left right e =
    let conjunct = and_right (ends_in_linker (map indic_conjunct_break (c ∷ before))) (is_consonant (indic_conjunct_break n)) e in
    let emoji = joins_emoji-not_zwj (c ∷ before) n (ap is_zwj (sym left)) in
    let flag = and_right (ends_in_half_flag (c ∷ before)) (is_regional (grapheme_cluster_break n)) (ap is_regional (sym right)) in
    ap not (ap₂ ◌||◌ (ap₂ ◌||◌ conjunct emoji) flag)

alone_breaks : Breaks is_alone
alone_breaks c n before after p q =
    let here = alone_class c p in
    let next = alone_class n q in
    is_grapheme_break-inside true (c ∷ before) n after (omega arith)
    ∙ pair_breaks (grapheme_cluster_break c) (grapheme_cluster_break n) _ here.0 next.0 (λ l r. others_break c n before l r next.1)

pub clusters_alone : (text : List ℕ) → are_alone (chars text) ≡ true → length (graphemes true text) ≡ length (chars text)
clusters_alone = clusters_disjoint is_alone alone_breaks

-- ---- below U+0300, and from there on

below_alone : (c : ℕ) → c < 768 → (c == 13) ≡ false → is_alone c ≡ true
below_alone c lt ne =
    elim (cases_lt c 13) [
      | inl low ↦ or_left (nat_le 0 c && nat_le c 12) _ (and_from (nat_le 0 c) (nat_le c 12) (le-leb 0 c (omega arith)) (le-leb c 12 (omega arith)))
      | inr high ↦
          let past : 14 ≤ c = grind (arith, nat_tests, ne, high) in
          or_right (nat_le 0 c && nat_le c 12) _ (or_left (nat_le 14 c && nat_le c 767) _ (and_from (nat_le 14 c) (nat_le c 767) (le-leb 14 c past) (le-leb c 767 (omega arith))))
    ]

-- ---- ASCII

simple_ascii : (text : List ℕ) (i : ℕ) → is_simple text ≡ true → get_or text i 0 < 128
simple_ascii [] i e = omega arith
simple_ascii (b ∷ text) zero e = (simple_parts b text e).0
simple_ascii (b ∷ text) (suc i) e = simple_ascii text i (simple_parts b text e).2

simple_is_alone : (b : ℕ) → b < 128 → (b == 13) ≡ false → is_alone b ≡ true
simple_is_alone b lt ne = below_alone b (omega (arith, lt)) ne

simple_alone : (text : List ℕ) → is_simple text ≡ true → are_alone text ≡ true
simple_alone [] e = refl
simple_alone (b ∷ text) e =
    let parts = simple_parts b text e in
    and_from (is_alone b) (are_alone text) (simple_is_alone b parts.0 parts.1) (simple_alone text parts.2)

-- ---- a front of ASCII

front_simple : (text : List ℕ) → is_simple (take (prefix_len is_simple_byte text) text) ≡ true
front_simple [] = refl
front_simple (b ∷ text) =
    elim (is_simple_byte b) as (λ v. is_simple_byte b ≡ v → is_simple (take (cond v (1 + prefix_len is_simple_byte text) 0) (b ∷ text)) ≡ true) [
      | true ↦ λ h. rw one-add (and_from (is_simple_byte b) _ h (front_simple text))
      | false ↦ λ h. refl
    ] refl

simple_low : (b : ℕ) → is_simple_byte b ≡ true → b < 128
simple_low b e = grind (arith, nat_tests, e)

pub front_boundary : (text : List ℕ) (n : ℕ) → IsUtf8 text → n ≡ prefix_len is_simple_byte text → IsCharBoundary text n
front_boundary text zero utf8 is = IsCharBoundary-start text utf8
front_boundary text (suc n) utf8 is =
    let there : n < prefix_len is_simple_byte text = omega (arith, is) in
    let low = simple_low (get_or text n 0) (prefix_len_passes is_simple_byte text n 0 there) in
    subst (IsCharBoundary text) (add-one n) (IsCharBoundary-after_ascii text n utf8 (omega (arith, there, prefix_len-le-length is_simple_byte text)) low)

-- as many clusters as bytes there, and as characters after it
pub clusters_front : (text : List ℕ) (n count : ℕ) → IsUtf8 text → n ≡ prefix_len is_simple_byte text → are_alone (chars (drop n text)) ≡ true → count ≡ length (chars (drop n text)) → n + count ≡ length (graphemes true text)
clusters_front text n count utf8 is alone counted =
    let front : List ℕ = take n text in
    let rest : List ℕ = drop n text in
    let simple : is_simple front ≡ true = ap (λ k. is_simple (take k text)) is ∙ front_simple text in
    let ascii : IsAscii front = λ i. simple_ascii front i simple in
    let same : chars text ≡ front ++ chars rest = ap chars (sym (take-append-drop n text)) ∙ chars-append front rest (IsUtf8-from_ascii front ascii) ∙ ap (λ x. x ++ chars rest) (chars-IsAscii front ascii) in
    let all : are_alone (chars text) ≡ true = ap are_alone same ∙ list_all-append is_alone front (chars rest) ∙ and_from (are_alone front) (are_alone (chars rest)) (simple_alone front simple) alone in
    let within : n ≤ length text = omega (arith, is, prefix_len-le-length is_simple_byte text) in
    omega (arith, clusters_alone text all, ap length same, length-append front (chars rest), length-take-le n text within, counted)

-- a part of a simple text
simple_drop : (n : ℕ) (text : List ℕ) → is_simple text ≡ true → is_simple (drop n text) ≡ true
simple_drop zero text e = e
simple_drop (suc n) [] e = e
simple_drop (suc n) (b ∷ text) e = simple_drop n text (simple_parts b text e).2

simple_take : (n : ℕ) (text : List ℕ) → is_simple text ≡ true → is_simple (take n text) ≡ true
simple_take zero text e = refl
simple_take (suc n) [] e = e
simple_take (suc n) (b ∷ text) e =
    let parts = simple_parts b text e in
    let below : nat_lt b 128 ≡ true = grind (arith, nat_tests, parts.0) in
    rw (below, parts.1) (simple_take n text parts.2)

pub clusters_part : (source : List ℕ) (start : ℕ) (text : List ℕ) → IsFrom source start text → is_simple source ≡ true → length (graphemes true text) ≡ length text
clusters_part source start text p e = clusters_simple text (ap is_simple p.0 ∙ simple_take (length text) (drop start source) (simple_drop start source e))
