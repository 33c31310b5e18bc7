-- A text has as many grapheme clusters as characters if a cluster ends between any two of them, and as many as bytes if
-- it is ASCII without CR.
use Rattle.std.proofs.Common.{get_or, not, ◌≡◌, ◌∙◌, ◌+◌, ◌-◌, ◌*◌, ◌≤◌, ◌<◌, ◌==◌, ◌&&◌, ap, ap₂, sym, refl, true≢false, ℕ, suc, zero, Bool, true, false, List, [], ◌∷◌, length, arith, drop, take, add-one, drop-cons}
use Rattle.std.specs.Prelude.{encode_utf8_all, ◌++◌, nat_eq, nat_lt, slice_index_or, unwrap_or}
use Rattle.std.specs.List.{list_all}
use Rattle.hcl_source.specs.Simple.{is_simple}
use Rattle.std.proofs.Math.ListN.{drop_of_length-le}
use Rattle.std.proofs.lemmas.List.{length-map}
use Rattle.std.proofs.lemmas.Str.{chars-IsAscii}
use Rattle.std.proofs.lemmas.Bool.Decides.{nat_tests}
use Rattle.std.specs.Str.{chars, chars_after, continuation_len, lead_bits}
use Rattle.ucd_breaks.specs.GraphemeClusterBreak.{grapheme_cluster_break}
use Rattle.ucd_breaks.specs.declared.GraphemeClusterBreak.{GraphemeClusterBreak}
use Rattle.ucd_breaks.specs.declared.GraphemeClusterBreak.TheVariants.{Control, Cr, Extend, L, Lf, Lv, Lvt, Prepend, RegionalIndicator, SpacingMark, T, V, Other, Zwj}
use Rattle.ucd_breaks.proofs.Computing.{ucd_breaks}
use Rattle.ucd_breaks.proofs.GraphemeClusterBreakLemmas.{grapheme_cluster_break_stepped}
use Rattle.ucd_table.proofs.Facts.{Stepped-below}
use Rattle.unicode_segmentation.specs.Grapheme.{break_by_pair, graphemes, is_grapheme_break}
use Rattle.unicode_segmentation.proofs.GraphemeLemmas.{is_grapheme_break-inside, is_grapheme_break-others}
use Rattle.unicode_segmentation.specs.Segments.{Rule, cut, prepend, segments}

-- ---- characters that all break

-- between two such characters is the end of a cluster
abbrev pub Breaks : (ℕ → Bool) → Type 0
Breaks alone = (c n : ℕ) (before after : List ℕ) → alone c ≡ true → alone n ≡ true → is_grapheme_break true (c ∷ before) (n ∷ after) ≡ true

and_parts : (a b : Bool) → (a && b) ≡ true → (a ≡ true) × (b ≡ true)
and_parts true b h = (refl, h)
and_parts false b h = cc

cut_step : (rule : Rule) (before : List ℕ) (c : ℕ) (cs after : List ℕ) → rule (c ∷ before) (cs ++ after) ≡ true → length (cut rule before (c ∷ cs) after) ≡ suc (length (cut rule (c ∷ before) cs after))
unfolding cut
cut_step rule before c cs after e = rw e refl

cut_end : (rule : Rule) (before after : List ℕ) → length (cut rule before [] after) ≡ 0
unfolding cut
cut_end rule before after = refl

last_breaks : (c : ℕ) (before : List ℕ) → is_grapheme_break true (c ∷ before) [] ≡ true
unfolding is_grapheme_break
last_breaks c before = refl

-- a cluster for each character, after the character before
apart_cut : (alone : ℕ → Bool) → Breaks alone → (cs : List ℕ) (c : ℕ) (before : List ℕ) → alone c ≡ true → list_all alone cs ≡ true → length (cut (is_grapheme_break true) before (c ∷ cs) []) ≡ suc (length cs)
apart_cut alone breaks [] c before p e = cut_step (is_grapheme_break true) before c [] [] (last_breaks c before) ∙ ap suc (cut_end (is_grapheme_break true) (c ∷ before) [])
apart_cut alone breaks (n ∷ cs) c before p e =
    let parts = and_parts (alone n) (list_all alone cs) e in
    cut_step (is_grapheme_break true) before c (n ∷ cs) [] (breaks c n before (cs ++ []) p parts.0) ∙ ap suc (apart_cut alone breaks cs n (c ∷ before) parts.0 parts.1)

apart_cuts : (alone : ℕ → Bool) → Breaks alone → (cs : List ℕ) → list_all alone cs ≡ true → length (cut (is_grapheme_break true) [] cs []) ≡ length cs
apart_cuts alone breaks [] e = cut_end (is_grapheme_break true) [] []
apart_cuts alone breaks (c ∷ cs) e =
    let parts = and_parts (alone c) (list_all alone cs) e in
    apart_cut alone breaks cs c [] parts.0 parts.1

pub clusters_disjoint : (alone : ℕ → Bool) → Breaks alone → (text : List ℕ) → list_all alone (chars text) ≡ true → length (graphemes true text) ≡ length (chars text)
unfolding segments
clusters_disjoint alone breaks text e = length-map (cut (is_grapheme_break true) [] (chars text) []) encode_utf8_all ∙ apart_cuts alone breaks (chars text) e

-- ---- characters below the first that joins

abbrev first_joining : ℕ
first_joining = 768

abbrev is_alone : ℕ → Bool
is_alone c = nat_lt c first_joining && not (c == 13)

abbrev are_alone : List ℕ → Bool
are_alone cs = list_all is_alone cs

-- the table's classes for them: apart from the ends of lines, all break on both sides
abbrev alone_class : ℕ → GraphemeClusterBreak → Bool
alone_class c Other = true
alone_class c Control = true
alone_class c Cr = c == 13
alone_class c Lf = c == 10
alone_class c _ = false

class_of_alone : (c : ℕ) → c < first_joining → alone_class c (grapheme_cluster_break c) ≡ true
unfolding ucd_breaks
class_of_alone c below = Stepped-below grapheme_cluster_break grapheme_cluster_break_stepped alone_class first_joining refl c below

-- whether two characters of these classes break, given the answer of the tables' further rules
pair_breaks : (l r : GraphemeClusterBreak) (c n : ℕ) (more : Bool) → alone_class c l ≡ true → alone_class n r ≡ true → ((c == 13) && (n == 10)) ≡ false
    → (Other ≡ l → Other ≡ r → unwrap_or (break_by_pair true l r) more ≡ true) → unwrap_or (break_by_pair true l r) more ≡ true
pair_breaks Control Control c n more p q e f = refl
pair_breaks Control Cr c n more p q e f = refl
pair_breaks Control Extend c n more p q e f = absurd (true≢false (sym q))
pair_breaks Control L c n more p q e f = absurd (true≢false (sym q))
pair_breaks Control Lf c n more p q e f = refl
pair_breaks Control Lv c n more p q e f = absurd (true≢false (sym q))
pair_breaks Control Lvt c n more p q e f = absurd (true≢false (sym q))
pair_breaks Control Prepend c n more p q e f = absurd (true≢false (sym q))
pair_breaks Control RegionalIndicator c n more p q e f = absurd (true≢false (sym q))
pair_breaks Control SpacingMark c n more p q e f = absurd (true≢false (sym q))
pair_breaks Control T c n more p q e f = absurd (true≢false (sym q))
pair_breaks Control V c n more p q e f = absurd (true≢false (sym q))
pair_breaks Control Other c n more p q e f = refl
pair_breaks Control Zwj c n more p q e f = absurd (true≢false (sym q))
pair_breaks Cr Control c n more p q e f = refl
pair_breaks Cr Cr c n more p q e f = refl
pair_breaks Cr Extend c n more p q e f = absurd (true≢false (sym q))
pair_breaks Cr L c n more p q e f = absurd (true≢false (sym q))
pair_breaks Cr Lf c n more p q e f = absurd (true≢false (sym (ap₂ ◌&&◌ p q) ∙ e))
pair_breaks Cr Lv c n more p q e f = absurd (true≢false (sym q))
pair_breaks Cr Lvt c n more p q e f = absurd (true≢false (sym q))
pair_breaks Cr Prepend c n more p q e f = absurd (true≢false (sym q))
pair_breaks Cr RegionalIndicator c n more p q e f = absurd (true≢false (sym q))
pair_breaks Cr SpacingMark c n more p q e f = absurd (true≢false (sym q))
pair_breaks Cr T c n more p q e f = absurd (true≢false (sym q))
pair_breaks Cr V c n more p q e f = absurd (true≢false (sym q))
pair_breaks Cr Other c n more p q e f = refl
pair_breaks Cr Zwj c n more p q e f = absurd (true≢false (sym q))
pair_breaks Extend r c n more p q e f = absurd (true≢false (sym p))
pair_breaks L r c n more p q e f = absurd (true≢false (sym p))
pair_breaks Lf Control c n more p q e f = refl
pair_breaks Lf Cr c n more p q e f = refl
pair_breaks Lf Extend c n more p q e f = absurd (true≢false (sym q))
pair_breaks Lf L c n more p q e f = absurd (true≢false (sym q))
pair_breaks Lf Lf c n more p q e f = refl
pair_breaks Lf Lv c n more p q e f = absurd (true≢false (sym q))
pair_breaks Lf Lvt c n more p q e f = absurd (true≢false (sym q))
pair_breaks Lf Prepend c n more p q e f = absurd (true≢false (sym q))
pair_breaks Lf RegionalIndicator c n more p q e f = absurd (true≢false (sym q))
pair_breaks Lf SpacingMark c n more p q e f = absurd (true≢false (sym q))
pair_breaks Lf T c n more p q e f = absurd (true≢false (sym q))
pair_breaks Lf V c n more p q e f = absurd (true≢false (sym q))
pair_breaks Lf Other c n more p q e f = refl
pair_breaks Lf Zwj c n more p q e f = absurd (true≢false (sym q))
pair_breaks Lv r c n more p q e f = absurd (true≢false (sym p))
pair_breaks Lvt r c n more p q e f = absurd (true≢false (sym p))
pair_breaks Prepend r c n more p q e f = absurd (true≢false (sym p))
pair_breaks RegionalIndicator r c n more p q e f = absurd (true≢false (sym p))
pair_breaks SpacingMark r c n more p q e f = absurd (true≢false (sym p))
pair_breaks T r c n more p q e f = absurd (true≢false (sym p))
pair_breaks V r c n more p q e f = absurd (true≢false (sym p))
pair_breaks Other Control c n more p q e f = refl
pair_breaks Other Cr c n more p q e f = refl
pair_breaks Other Extend c n more p q e f = absurd (true≢false (sym q))
pair_breaks Other L c n more p q e f = absurd (true≢false (sym q))
pair_breaks Other Lf c n more p q e f = refl
pair_breaks Other Lv c n more p q e f = absurd (true≢false (sym q))
pair_breaks Other Lvt c n more p q e f = absurd (true≢false (sym q))
pair_breaks Other Prepend c n more p q e f = absurd (true≢false (sym q))
pair_breaks Other RegionalIndicator c n more p q e f = absurd (true≢false (sym q))
pair_breaks Other SpacingMark c n more p q e f = absurd (true≢false (sym q))
pair_breaks Other T c n more p q e f = absurd (true≢false (sym q))
pair_breaks Other V c n more p q e f = absurd (true≢false (sym q))
pair_breaks Other Other c n more p q e f = f refl refl
pair_breaks Other Zwj c n more p q e f = absurd (true≢false (sym q))
pair_breaks Zwj r c n more p q e f = absurd (true≢false (sym p))

-- a character that is a cluster by itself
alone_is : (c : ℕ) → is_alone c ≡ true → (c < first_joining) × ((c == 13) ≡ false)
alone_is c e = go (nat_lt c first_joining) refl (c == 13) refl e
  where
    go : (v : Bool) → nat_lt c first_joining ≡ v → (w : Bool) → (c == 13) ≡ w → (v && not w) ≡ true → (c < first_joining) × ((c == 13) ≡ false)
    go true v false w h = (grind (arith, nat_tests), w)
    go true v true w h = cc
    go false v w q h = cc

alone_breaks : Breaks is_alone
alone_breaks c n before after p q =
    let inside = is_grapheme_break-inside true (c ∷ before) n after (omega arith) in
    let here = alone_is c p in
    let next = alone_is n q in
    inside ∙ pair_breaks (grapheme_cluster_break c) (grapheme_cluster_break n) c n _ (class_of_alone c here.0) (class_of_alone n next.0) (ap (λ v. v && (n == 10)) here.1)
    (λ l r. sym inside ∙ sym (is_grapheme_break-others true (c ∷ before) n after (omega arith) (omega arith) l r))

-- ---- ASCII

-- another simple byte
pub simple_parts : (b : ℕ) (text : List ℕ) → is_simple (b ∷ text) ≡ true → (b < 128) × ((b == 13) ≡ false) × (is_simple text ≡ true)
simple_parts b text e = go (nat_lt b 128) refl (b == 13) refl e
  where
    go : (v : Bool) → nat_lt b 128 ≡ v → (w : Bool) → (b == 13) ≡ w → ((v && not w) && is_simple text) ≡ true → (b < 128) × ((b == 13) ≡ false) × (is_simple text ≡ true)
    go true v false w h = (grind (arith, nat_tests), w, h)
    go true v true w h = cc
    go false v w q h = cc

simple_ascii : (text : List ℕ) (i : ℕ) → is_simple text ≡ true → get_or text i 0 < 128
simple_ascii [] i e = omega arith
simple_ascii (b ∷ text) zero e = (simple_parts b text e).0
simple_ascii (b ∷ text) (suc i) e = simple_ascii text i (simple_parts b text e).2

simple_alone : (text : List ℕ) → is_simple text ≡ true → are_alone text ≡ true
simple_alone [] e = refl
simple_alone (b ∷ text) e =
    let parts = simple_parts b text e in
    let below : nat_lt b first_joining ≡ true = grind (arith, nat_tests, parts.0) in
    rw (below, parts.1) (simple_alone text parts.2)

pub clusters_simple : (text : List ℕ) → is_simple text ≡ true → length (graphemes true text) ≡ length text
clusters_simple text e =
    let same = chars-IsAscii text (λ i. simple_ascii text i e) in
    clusters_disjoint is_alone alone_breaks text (ap are_alone same ∙ simple_alone text e) ∙ ap length same

-- ---- byte by byte

and_then : (v a b c : Bool) → (v && ((a && b) && c)) ≡ (((v && a) && b) && c)
and_then true a b c = refl
and_then false a b c = refl

pub simple_next : (bytes : List ℕ) (i : ℕ) (v : Bool) → i < length bytes → is_simple bytes ≡ (v && is_simple (drop i bytes))
    → is_simple bytes ≡ (((v && nat_lt (slice_index_or bytes i 0) 128) && not (nat_eq (slice_index_or bytes i 0) 13)) && is_simple (drop (i + 1) bytes))
simple_next bytes i v lt e =
    let b : ℕ = slice_index_or bytes i 0 in
    let here : drop i bytes ≡ b ∷ drop (i + 1) bytes = rw add-one (drop-cons bytes i 0 lt) in
    e ∙ ap (λ l. v && is_simple l) here ∙ and_then v (nat_lt b 128) (not (nat_eq b 13)) (is_simple (drop (i + 1) bytes))

pub simple_end : (bytes : List ℕ) (i : ℕ) (v : Bool) → length bytes ≤ i → is_simple bytes ≡ (v && is_simple (drop i bytes)) → v ≡ is_simple bytes
simple_end bytes i v le e = sym (e ∙ ap (λ l. v && is_simple l) (drop_of_length-le bytes le) ∙ and_true v)
  where
    and_true : (w : Bool) → (w && true) ≡ w
    and_true true = refl
    and_true false = refl
