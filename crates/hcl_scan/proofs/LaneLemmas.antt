-- From the lanes of vectors to the bytes that they were loaded from.
use Rattle.std.proofs.Common.{◌≡◌, ◌≢◌, ℕ, zero, suc, ◌+◌, ◌-◌, ◌%◌, ◌^◌, ◌<◌, ◌≤◌, ◌==◌, not, Fits, w8, Bool, true, false, cond, leb, eqb, bit_and, bit_or, List, [], ◌∷◌, map, length, get_or, take_all, drop, replicate, inl, inr, refl, sym, ap, ◌∙◌, subst, arith}
use Rattle.std.specs.Int.{bit_at}
use Rattle.std.specs.List.{prefix_len, range_with_len}
use Rattle.std.proofs.lemmas.Bool.{agree_below, agree_below_at, le-leb, eq-eqb, cases_lt, cases_eq}
use Rattle.std.proofs.lemmas.List.{length-map, get_or_past}
use Rattle.std.proofs.lemmas.List.FromFn.{get_or-map-range_with_len, length-range_with_len}
use Rattle.std.proofs.lemmas.List.Sums.{prefix_len-le-length}
use Rattle.std.proofs.lemmas.Nat.Bits.{bit_at-zero}
use Rattle.std.proofs.lemmas.Simd.{bit_mask_l, first_set_mask_l, zip2_splat, map-map, mask_l-mod, pick_l-range_with_len, splat_is_map, zip2_of_maps}
use Rattle.std.specs.Simd.Lanes.{chunk, mask_l, top, zip2}
use Rattle.hcl_tokens.specs.Spelling.{starts}
use Rattle.hcl_scan.specs.Inner.Found.{is_ordinary}
use Rattle.hcl_scan.specs.Inner.Lanes.{first_set, MarksLikely, Stands, NoneStands, IsAfterOthers}

-- the numbers of n lanes
abbrev pub lanes : ℕ → List ℕ
lanes = range_with_len 0

moved : (f : ℕ → ℕ) (i b n : ℕ) → map f (range_with_len (i + b) n) ≡ map (λ k. f (i + k)) (range_with_len b n)
moved f i b zero = refl
moved f i b (suc n) = ap (λ rest. f (i + b) ∷ rest) (ap (λ a. map f (range_with_len a n)) (omega arith) ∙ moved f i (b + 1) n)

-- the loaded bytes, lane by lane
pub loaded : (text : List ℕ) (i n : ℕ) → i + n ≤ length text → chunk i n text ≡ map (λ k. get_or text (i + k) 0) (lanes n)
loaded text i n room = sym (pick_l-range_with_len 0 text i n room) ∙ ap (λ a. map (λ k. get_or text k 0) (range_with_len a n)) (omega arith) ∙ moved (λ k. get_or text k 0) i 0 n

-- the comparison of a load with one byte
compared : (t : ℕ → ℕ → Bool) (text : List ℕ) (i n y : ℕ) → i + n ≤ length text → zip2 {C = ℕ} (λ a b. cond (t a b) 255 0) (chunk i n text) (replicate n y) ≡ map (λ k. cond (t (get_or text (i + k) 0) y) 255 0) (lanes n)
compared t text i n y room = zip2_of_maps (λ a b. cond (t a b) 255 0) (λ k. get_or text (i + k) 0) (λ _. y) (lanes n) (loaded text i n room) (splat_is_map (lanes n) n y (length-range_with_len 0 n))

-- the bits of a mask that was computed lane by lane
module _ (f : ℕ → ℕ) (z : List ℕ) (n : ℕ) (few : n ≤ 64) (z_is : z ≡ map f (lanes n)) where
  abbrev mask : ℕ
  mask = mask_l (map (top 7) z) % 2 ^ 64

  long : length (map (top 7) z) ≡ n
  long = length-map z (top 7) ∙ ap length z_is ∙ length-map (lanes n) f ∙ length-range_with_len 0 n

  bit : (k : ℕ) → bit_at mask k ≡ cond (get_or (map (top 7) z) k false) 1 0
  bit k = ap (λ m. bit_at m k) (mask_l-mod (map (top 7) z) 64 (omega (arith, long))) ∙ bit_mask_l (map (top 7) z) k

  lane : (k : ℕ) → k < n → get_or (map (top 7) z) k false ≡ top 7 (f k)
  lane k lt =
      ap (λ l. get_or (map (top 7) l) k false) z_is ∙ ap (λ l. get_or l k false) (map-map (top 7) f (lanes n))
      ∙ get_or-map-range_with_len (λ j. top 7 (f j)) 0 n k k false lt (omega arith)

  pub bit_set : (k : ℕ) → k < n → top 7 (f k) ≡ true → bit_at mask k ≡ 1
  bit_set k lt passes = bit k ∙ ap (λ b. cond b 1 0) (lane k lt ∙ passes)

  pub bit_within : (k : ℕ) → bit_at mask k ≡ 1 → k < n
  bit_within k set = elim (cases_lt k n) [
    | inl lt ↦ lt
    | inr past ↦
        let none : bit_at mask k ≡ 0 = bit k ∙ ap (λ b. cond b 1 0) (get_or_past (map (top 7) z) k false (omega (arith, long, past))) in
        absurd (omega (arith, none, set))
  ]

module _ (text marker : List ℕ) (at : ℕ) (some : 0 < length marker) (room : at + 32 + length marker < length text) where
  abbrev low : ℕ → ℕ
  low b = cond (leb b 32) 255 0

  abbrev same : ℕ → ℕ → ℕ
  same b c = cond (eqb b c) 255 0

  abbrev first : ℕ
  first = get_or marker 0 0

  abbrev last : ℕ
  last = get_or marker (length marker - 1) 0

  abbrev before : List ℕ
  before = zip2 {C = ℕ} (λ a b. cond (leb a b) 255 0) (chunk at 32 text) (replicate 32 32)

  abbrev front : List ℕ
  front = zip2 {C = ℕ} (λ a b. cond (eqb a b) 255 0) (chunk (at + 1) 32 text) (replicate 32 first)

  abbrev back : List ℕ
  back = zip2 {C = ℕ} (λ a b. cond (eqb a b) 255 0) (chunk (at + length marker) 32 text) (replicate 32 last)

  abbrev following : List ℕ
  following = zip2 {C = ℕ} (λ a b. cond (leb a b) 255 0) (chunk (at + length marker + 1) 32 text) (replicate 32 32)

  abbrev two : ℕ → ℕ
  two k = bit_and (low (get_or text (at + k) 0)) (low (get_or text (at + length marker + 1 + k) 0))

  abbrev three : ℕ → ℕ
  three k = bit_and (two k) (same (get_or text (at + 1 + k) 0) first)

  abbrev four : ℕ → ℕ
  four k = bit_and (three k) (same (get_or text (at + length marker + k) 0) last)

  abbrev pub all : List ℕ
  all = zip2 bit_and (zip2 bit_and (zip2 bit_and before following) front) back

  all_is : all ≡ map four (lanes 32)
  all_is =
      zip2_of_maps bit_and three (λ k. same (get_or text (at + length marker + k) 0) last) (lanes 32)
      (zip2_of_maps bit_and two (λ k. same (get_or text (at + 1 + k) 0) first) (lanes 32)
      (zip2_of_maps bit_and (λ k. low (get_or text (at + k) 0)) (λ k. low (get_or text (at + length marker + 1 + k) 0)) (lanes 32)
      (compared leb text at 32 32 (omega (arith, room))) (compared leb text (at + length marker + 1) 32 32 (omega (arith, room))))
      (compared eqb text (at + 1) 32 first (omega (arith, room, some))))
      (compared eqb text (at + length marker) 32 last (omega (arith, room)))

  set : (a b c d : ℕ) → a ≤ 32 → b ≡ first → c ≡ last → d ≤ 32 → top 7 (bit_and (bit_and (bit_and (low a) (low d)) (same b first)) (same c last)) ≡ true
  set a b c d a_low b_is c_is d_low =
      (λ i. top 7 (bit_and (bit_and (bit_and (cond (le-leb a 32 a_low i) 255 0) (cond (le-leb d 32 d_low i) 255 0)) (cond (eq-eqb b first b_is i) 255 0)) (cond (eq-eqb c last c_is i) 255 0)))

  pub marks_likely : MarksLikely text marker at (mask_l (map (top 7) all) % 2 ^ 64)
  marks_likely = record {
    within = bit_within four all 32 (omega arith) all_is;
    set = λ k lt is. bit_set four all 32 (omega arith) all_is k lt
        (set _ _ _ _ is.before (ap (λ i. get_or text i 0) (omega arith) ∙ is.front) (ap (λ i. get_or text i 0) (omega arith) ∙ is.back) (subst (λ i. get_or text i 0 ≤ 32) (omega arith) is.following));
  }

-- among the marked places and the remaining ones, those after which the marker isn't
abbrev pub LeftOf : List ℕ → List ℕ → ℕ → ℕ → Type 0
LeftOf text marker at left = (k : ℕ) → k < 32 → Stands text marker (at + k) → bit_at left k ≡ 1

pub left_without : (text marker : List ℕ) (at left next out : ℕ) → LeftOf text marker at left → starts (drop (at + out + 1) text) marker ≡ false → ((k : ℕ) → k < 64 → k ≢ out → bit_at next k ≡ bit_at left k) → LeftOf text marker at next
left_without text marker at left next out old differs kept k lt is = elim (cases_eq k out) [
  | inl e ↦
      let begun = ap (λ i. starts (drop (at + i + 1) text) marker) (sym e) ∙ is.begins in
      absurd (cc (begun, differs))
  | inr other ↦ kept k (omega (arith, lt)) other ∙ old k lt is
]

-- the marker isn't after a place before the lowest remaining one
pub none_below : (text marker : List ℕ) (at left lane : ℕ) → LeftOf text marker at left → lane < 32 → ((k : ℕ) → k < lane → bit_at left k ≡ 0) → IsAfterOthers text marker at (at + lane + 1)
none_below text marker at left lane old few clear = record {
  low = omega arith;
  none = λ k from upto is.
      let there : bit_at left (k - at) ≡ 1 = old (k - at) (omega (arith, from, upto, few)) (subst (Stands text marker) (omega (arith, from)) is) in
      let none : bit_at left (k - at) ≡ 0 = clear (k - at) (omega (arith, from, upto)) in
      absurd (omega (arith, there, none));
}

pub none_left : (text marker : List ℕ) (at left : ℕ) → LeftOf text marker at left → left ≡ 0 → NoneStands text marker at (at + 32)
none_left text marker at left old empty k from upto is =
    let there : bit_at left (k - at) ≡ 1 = old (k - at) (omega (arith, from, upto)) (subst (Stands text marker) (omega (arith, from)) is) in
    let none : bit_at left (k - at) ≡ 0 = ap (λ m. bit_at m (k - at)) empty ∙ bit_at-zero (k - at) in
    absurd (omega (arith, there, none))

-- a run in one load, whose lanes show where the bytes stop passing
module _ (passes : ℕ → Bool) (f : ℕ → ℕ) (v z : List ℕ) (fits : (k : ℕ) → Fits w8 (get_or v k 0)) (size : length v ≡ 16) (z_is : z ≡ map f v) (agree : agree_below (λ b. not (top 7 (f b))) passes 256 ≡ true) where
  same_run : (w : List ℕ) → ((k : ℕ) → Fits w8 (get_or w k 0)) → prefix_len (λ b. not (top 7 (f b))) w ≡ prefix_len passes w
  same_run [] _ = refl
  same_run (b ∷ w) w_fits = (λ i. cond (agree_below_at (λ x. not (top 7 (f x))) passes 256 b agree (w_fits 0).fits i) (1 + same_run w (λ k. w_fits (suc k)) i) 0)

  pub run_is : (r : ℕ) → r ≡ first_set (mask_l (map (top 7) z) % 2 ^ 64) 16 → r ≡ prefix_len passes v
  run_is r found =
      let mask : mask_l (map (top 7) z) % 2 ^ 64 ≡ mask_l (map (λ b. top 7 (f b)) v) =
      ap (λ l. mask_l l % 2 ^ 64) (ap (map (top 7)) z_is ∙ map-map (top 7) f v) ∙ mask_l-mod (map (λ b. top 7 (f b)) v) 64 (omega (arith, length-map v (λ b. top 7 (f b)), size)) in
      found ∙ ap (λ m. first_set m 16) mask ∙ first_set_mask_l (λ b. top 7 (f b)) v 16 size (omega arith) ∙ same_run v fits

-- the lanes of one byte, and of either of two
abbrev is_lane : ℕ → ℕ → ℕ
is_lane y b = cond (eqb b y) 255 0

is_lanes : (v : List ℕ) (y : ℕ) → length v ≡ 16 → zip2 {C = ℕ} (λ a b. cond (eqb a b) 255 0) v (replicate 16 y) ≡ map (is_lane y) v
is_lanes v y size = zip2_splat (λ a b. cond (eqb a b) 255 0) v 16 y size

whole : (seen : List ℕ) → length seen ≡ 16 → chunk 0 16 seen ≡ seen
whole seen size = take_all 16 seen (omega (arith, size))

-- a run is no longer than its load
pub run_within : (passes : ℕ → Bool) (seen : List ℕ) (r : ℕ) → length seen ≡ 16 → r ≡ prefix_len passes seen → r ≤ 16
run_within passes seen r size r_is = omega (arith, r_is, size, prefix_len-le-length passes seen)

abbrev pub byte_lanes : List ℕ → ℕ → List ℕ
byte_lanes v y = zip2 {C = ℕ} (λ a b. cond (eqb a b) 255 0) v (replicate 16 y)

module _ (seen : List ℕ) (fits : (k : ℕ) → Fits w8 (get_or seen k 0)) (size : length seen ≡ 16) where
  pub line : (r : ℕ) → r ≡ first_set (mask_l (map (top 7) (byte_lanes (chunk 0 16 seen) 10)) % 2 ^ 64) 16 → r ≡ prefix_len (λ b. not (b == 10)) seen
  line = run_is (λ b. not (b == 10)) (is_lane 10) seen _ fits size (ap (λ v. byte_lanes v 10) (whole seen size) ∙ is_lanes seen 10 size) refl

  abbrev special : List ℕ → List ℕ
  special v = zip2 bit_or (zip2 bit_or (zip2 bit_or (zip2 bit_or (zip2 bit_or (byte_lanes v 10) (byte_lanes v 13)) (byte_lanes v 34)) (byte_lanes v 36)) (byte_lanes v 37)) (byte_lanes v 92)

  abbrev two_special : ℕ → ℕ
  two_special b = bit_or (is_lane 10 b) (is_lane 13 b)

  abbrev three_special : ℕ → ℕ
  three_special b = bit_or (two_special b) (is_lane 34 b)

  abbrev four_special : ℕ → ℕ
  four_special b = bit_or (three_special b) (is_lane 36 b)

  abbrev five_special : ℕ → ℕ
  five_special b = bit_or (four_special b) (is_lane 37 b)

  abbrev six_special : ℕ → ℕ
  six_special b = bit_or (five_special b) (is_lane 92 b)

  special_is : special seen ≡ map six_special seen
  special_is =
      zip2_of_maps bit_or five_special (is_lane 92) seen (zip2_of_maps bit_or four_special (is_lane 37) seen (zip2_of_maps bit_or three_special (is_lane 36) seen
      (zip2_of_maps bit_or two_special (is_lane 34) seen (zip2_of_maps bit_or (is_lane 10) (is_lane 13) seen (is_lanes seen 10 size) (is_lanes seen 13 size)) (is_lanes seen 34 size))
      (is_lanes seen 36 size)) (is_lanes seen 37 size)) (is_lanes seen 92 size)

  pub ordinary : (r : ℕ) → r ≡ first_set (mask_l (map (top 7) (special (chunk 0 16 seen))) % 2 ^ 64) 16 → r ≡ prefix_len is_ordinary seen
  ordinary = run_is is_ordinary six_special seen _ fits size (ap special (whole seen size) ∙ special_is) refl
