-- The levels of whole lists are the levels by depth.
use Rattle.std.proofs.Common.{◌≡◌, ◌∙◌, ◌+◌, ◌-◌, ◌++◌, ◌<◌, ◌≤◌, ℕ, suc, zero, Bool, true, false, List, [], ◌∷◌, length, ap, ap₂, refl, sym, arith, add_assoc, get_or}
use Rattle.std.specs.Prelude.{◌&&◌, filter, if◌then◌else◌, nat_lt, slice_set}
use Rattle.std.proofs.Common.{length-set}
use Rattle.std.proofs.lemmas.List.{get_or-set_other}
use Rattle.std.proofs.lemmas.Grind.{get_or-set_at}
use Rattle.hcl_tokens.specs.Balanced.{max_open}
use Rattle.hcl_layout.specs.Levels.{Net, is_above, level, levels_after, no_net, plus, stays_above}
use Rattle.hcl_layout.specs.Inner.Depths.{Sound, with_level, next_levels}

-- ---- the open groups in turn

-- a is deeper than b: it has more openers above its closers
abbrev pub is_deeper : Net → Net → Bool
is_deeper a b = nat_lt (b.opens + a.closes) (a.opens + b.closes)

-- the nets added up
abbrev pub total : Net → List Net → Net
total sum [] = sum
total sum (n ∷ rest) = total (plus sum n) rest

-- where the open groups began
abbrev pub open_groups : Net → List Net → List Net
open_groups sum [] = []
open_groups sum (n ∷ rest) = if stays_above no_net (n ∷ rest) then sum ∷ open_groups (plus sum n) rest else open_groups (plus sum n) rest

abbrev net : ℕ → ℕ → Net
net o c = record { opens = o; closes = c }

plus_assoc : (a b c : Net) → plus (plus a b) c ≡ plus a (plus b c)
plus_assoc a b c = ap₂ net (add_assoc a.opens b.opens c.opens) (add_assoc a.closes b.closes c.closes)

plus_none : (a : Net) → plus no_net a ≡ a
plus_none a = ap₂ net (omega arith) (omega arith)

and_assoc : (a b c : Bool) → (a && (b && c)) ≡ ((a && b) && c)
and_assoc true b c = refl
and_assoc false b c = refl

and_true : (a : Bool) → (a && true) ≡ a
and_true true = refl
and_true false = refl

stays-more : (sum : Net) (xs : List Net) (n : Net) → stays_above sum (xs ++ n ∷ []) ≡ (stays_above sum xs && is_above (plus (total sum xs) n))
stays-more sum [] n = and_true _
stays-more sum (x ∷ xs) n = ap (λ b. is_above (plus sum x) && b) (stays-more (plus sum x) xs n)
    ∙ and_assoc (is_above (plus sum x)) (stays_above (plus sum x) xs) (is_above (plus (total (plus sum x) xs) n))

-- sums from a base on
relative : (base : Net) (xs : List Net) (sum : Net) → total (plus base sum) xs ≡ plus base (total sum xs)
relative base [] sum = refl
relative base (x ∷ xs) sum = ap (λ s. total s xs) (plus_assoc base sum x) ∙ relative base xs (plus sum x)

above_base : (base s : Net) → is_above s ≡ is_deeper (plus base s) base
above_base base s = grind arith

-- the group of x is still open where it was, and the depth is above the depth at its beginning
open_here : (sum x : Net) (xs : List Net) (n : Net)
    → stays_above no_net (x ∷ (xs ++ n ∷ [])) ≡ (stays_above no_net (x ∷ xs) && is_deeper (plus (total (plus sum x) xs) n) sum)
open_here sum x xs n =
    let from_sum : plus sum (plus (total no_net (x ∷ xs)) n) ≡ plus (total (plus sum x) xs) n =
    sym (plus_assoc sum (total no_net (x ∷ xs)) n) ∙ ap (λ s. plus s n) (sym (relative sum xs (plus no_net x)) ∙ ap (λ y. total (plus sum y) xs) (plus_none x)) in
    stays-more no_net (x ∷ xs) n
    ∙ ap (λ b. stays_above no_net (x ∷ xs) && b) (above_base sum (plus (total no_net (x ∷ xs)) n) ∙ ap (λ s. is_deeper s sum) from_sum)

if_filter : (s : Bool) (p : Net → Bool) (b : Net) (groups more : List Net)
    → (if s && p b then b ∷ (filter p groups ++ more) else (filter p groups ++ more)) ≡ filter p (if s then b ∷ groups else groups) ++ more
if_filter false p b groups more = refl
if_filter true p b groups more = go (p b) refl
  where
    go : (v : Bool) → p b ≡ v → (if true && p b then b ∷ (filter p groups ++ more) else (filter p groups ++ more)) ≡ filter p (b ∷ groups) ++ more
    go true e = rw e refl
    go false e = rw e refl

if_count : (s : Bool) (p : Net → Bool) (b : Net) (groups : List Net)
    → (if s && p b then 1 else 0) + length (filter p groups) ≡ length (filter p (if s then b ∷ groups else groups))
if_count false p b groups = omega arith
if_count true p b groups = go (p b) refl
  where
    go : (v : Bool) → p b ≡ v → (if true && p b then 1 else 0) + length (filter p groups) ≡ length (filter p (b ∷ groups))
    go true e = rw e (omega arith)
    go false e = rw e (omega arith)

open-more : (sum : Net) (xs : List Net) (n : Net)
    → open_groups sum (xs ++ n ∷ []) ≡ filter (λ g. is_deeper (plus (total sum xs) n) g) (open_groups sum xs) ++ (if is_above n then total sum xs ∷ [] else [])
open-more sum [] n = rw (and_true (is_above (plus no_net n))) (ap (λ m. if is_above m then sum ∷ [] else []) (plus_none n))
open-more sum (x ∷ xs) n =
    let p : Net → Bool = λ g. is_deeper (plus (total (plus sum x) xs) n) g in
    let groups = open_groups (plus sum x) xs in
    let more : List Net = if is_above n then total (plus sum x) xs ∷ [] else [] in
    ap₂ (λ (t : Bool) (l : List Net). if t then sum ∷ l else l) (open_here sum x xs n) (open-more (plus sum x) xs n)
    ∙ if_filter (stays_above no_net (x ∷ xs)) p sum groups more

level-open : (sum : Net) (xs : List Net) (n : Net) → level xs n ≡ length (filter (λ g. is_deeper (plus (total sum xs) n) g) (open_groups sum xs))
level-open sum [] n = refl
level-open sum (x ∷ xs) n =
    let p : Net → Bool = λ g. is_deeper (plus (total (plus sum x) xs) n) g in
    ap₂ (λ (t : Bool) (k : ℕ). (if t then 1 else 0) + k) (open_here sum x xs n) (level-open (plus sum x) xs n)
    ∙ if_count (stays_above no_net (x ∷ xs)) p sum (open_groups (plus sum x) xs)

total-more : (sum : Net) (xs : List Net) (n : Net) → total sum (xs ++ n ∷ []) ≡ plus (total sum xs) n
total-more sum [] n = refl
total-more sum (x ∷ xs) n = total-more (plus sum x) xs n

-- the groups after a line
abbrev pub groups_then : Net → List Net → Net → List Net
groups_then sum groups n = filter (λ g. is_deeper (plus sum n) g) groups ++ (if is_above n then sum ∷ [] else [])

-- levels from a state
abbrev pub levels_from : Net → List Net → List Net → List ℕ
levels_from sum groups [] = []
levels_from sum groups (n ∷ rest) = length (filter (λ g. is_deeper (plus sum n) g) groups) ∷ levels_from (plus sum n) (groups_then sum groups n) rest

pub levels_of_state : (before rest : List Net) → levels_after before rest ≡ levels_from (total no_net before) (open_groups no_net before) rest
levels_of_state before [] = refl
levels_of_state before (n ∷ rest) =
    ap₂ (λ (k : ℕ) (l : List ℕ). k ∷ l) (level-open no_net before n)
    (levels_of_state (before ++ n ∷ []) rest
    ∙ ap₂ (λ (s : Net) (g : List Net). levels_from s g rest) (total-more no_net before n) (open-more no_net before n))

-- ---- groups by depths

-- a net is that of a depth
abbrev pub Is : ℕ → Net → Type 0
Is d n = n.opens ≡ d + n.closes

-- the number of groups that began above a depth
abbrev pub count : Net → List Net → ℕ
count m groups = length (filter (λ g. is_deeper m g) groups)

-- the groups are counted by depth, and all began above the current depth
pub record Counted (d : ℕ) (groups : List Net) (levels : List ℕ) : Type 0 where
  pub room : length levels ≡ (max_open + 1)
  pub below : (k : ℕ) (m : Net) → Is k m → k ≤ d → count m groups ≡ get_or levels k 0
  pub all : (k : ℕ) (m : Net) → Is k m → d ≤ k → filter (λ g. is_deeper m g) groups ≡ groups

pub deeper_is : (a b : ℕ) (m n : Net) → Is a m → Is b n → is_deeper m n ≡ nat_lt b a
deeper_is a b m n p q = grind arith

pub above_is : (a b : ℕ) (s n : Net) → Is a s → Is b (plus s n) → is_above n ≡ nat_lt a b
above_is a b s n p q = grind arith

-- filtering by a greater depth first makes no difference to a filter by a lesser one
pub filter_lower : (j k : ℕ) (m n : Net) (groups : List Net) → Is j m → Is k n → j ≤ k → filter (λ g. is_deeper m g) (filter (λ g. is_deeper n g) groups) ≡ filter (λ g. is_deeper m g) groups
filter_lower j k m n [] p q le = refl
filter_lower j k m n (g ∷ groups) p q le = go (filter_lower j k m n groups p q le) (is_deeper n g) refl (is_deeper m g) refl
  where
    go : filter (λ x. is_deeper m x) (filter (λ x. is_deeper n x) groups) ≡ filter (λ x. is_deeper m x) groups → (v : Bool) → is_deeper n g ≡ v → (w : Bool) → is_deeper m g ≡ w
        → filter (λ x. is_deeper m x) (filter (λ x. is_deeper n x) (g ∷ groups)) ≡ filter (λ x. is_deeper m x) (g ∷ groups)
    go r true e true f = rw (e, f) (ap (λ l. g ∷ l) r)
    go r true e false f = rw (e, f) r
    go r false e false f = rw (e, f) r
    go r false e true f = absurd (grind arith)

-- and filtering by a greater depth after a lesser one removes nothing
pub filter_higher : (j k : ℕ) (m n : Net) (groups : List Net) → Is j m → Is k n → k ≤ j → filter (λ g. is_deeper m g) (filter (λ g. is_deeper n g) groups) ≡ filter (λ g. is_deeper n g) groups
filter_higher j k m n [] p q le = refl
filter_higher j k m n (g ∷ groups) p q le = go (filter_higher j k m n groups p q le) (is_deeper n g) refl (is_deeper m g) refl
  where
    go : filter (λ x. is_deeper m x) (filter (λ x. is_deeper n x) groups) ≡ filter (λ x. is_deeper n x) groups → (v : Bool) → is_deeper n g ≡ v → (w : Bool) → is_deeper m g ≡ w
        → filter (λ x. is_deeper m x) (filter (λ x. is_deeper n x) (g ∷ groups)) ≡ filter (λ x. is_deeper n x) (g ∷ groups)
    go r true e true f = rw (e, f) (ap (λ l. g ∷ l) r)
    go r true e false f = absurd (grind arith)
    go r false e w f = rw e r

-- ---- levels by depth

raised_length : (levels : List ℕ) (top from n : ℕ) → length (with_level levels top from n) ≡ length levels
raised_length levels top from zero = refl
raised_length levels top from (suc n) = raised_length (slice_set levels from top) top (from + 1) n ∙ length-set levels from top

raised_before : (levels : List ℕ) (top from n k : ℕ) → k < from → get_or (with_level levels top from n) k 0 ≡ get_or levels k 0
raised_before levels top from zero k lt = refl
raised_before levels top from (suc n) k lt =
    raised_before (slice_set levels from top) top (from + 1) n k (omega arith) ∙ get_or-set_other levels from k top 0 (λ e. omega arith)

raised_within : (levels : List ℕ) (top from n k : ℕ) → from ≤ k → k < from + n → from + n ≤ length levels → get_or (with_level levels top from n) k 0 ≡ top
raised_within levels top from zero k le lt room = absurd (omega arith)
raised_within levels top from (suc n) k le lt room =
    go (λ p. raised_within (slice_set levels from top) top (from + 1) n k p (omega arith) (omega (arith, length-set levels from top))) (nat_lt from k) refl
  where
    go : (from + 1 ≤ k → get_or (with_level levels top from (suc n)) k 0 ≡ top) → (v : Bool) → nat_lt from k ≡ v → get_or (with_level levels top from (suc n)) k 0 ≡ top
    go r true e = r (grind arith)
    go r false e = raised_before (slice_set levels from top) top (from + 1) n k (grind arith) ∙ get_or-set_at levels from k top 0 (grind arith) (omega arith)

pub next_levels_length : (d e : ℕ) (levels : List ℕ) → length (next_levels d e levels) ≡ length levels
next_levels_length d e levels = raised_length levels (get_or levels d 0 + 1) (d + 1) (e - d)

pub next_levels_before : (d e : ℕ) (levels : List ℕ) (k : ℕ) → k ≤ d → get_or (next_levels d e levels) k 0 ≡ get_or levels k 0
next_levels_before d e levels k le = raised_before levels (get_or levels d 0 + 1) (d + 1) (e - d) k (omega arith)

pub next_levels_above : (d e : ℕ) (levels : List ℕ) (k : ℕ) → d < k → k ≤ e → e < length levels → get_or (next_levels d e levels) k 0 ≡ get_or levels d 0 + 1
next_levels_above d e levels k lt le room = raised_within levels (get_or levels d 0 + 1) (d + 1) (e - d) k (omega arith) (omega arith) (omega arith)

pub raised_more : (levels : List ℕ) (top from to : ℕ) → from < to → with_level levels top from (to - from) ≡ with_level (slice_set levels from top) top (from + 1) (to - (from + 1))
raised_more levels top from to lt =
    let one : to - from ≡ suc (to - (from + 1)) = omega arith in
    ap (with_level levels top from) one

pub next_levels_sound : (d e : ℕ) (levels new : List ℕ) → d < e → e ≤ max_open → Sound d levels → new ≡ next_levels d e levels → Sound e new
next_levels_sound d e levels new lt low p q = (ap length q ∙ next_levels_length d e levels ∙ p.0, λ k le. go k le (nat_lt d k) refl)
  where
    go : (k : ℕ) → k ≤ e → (v : Bool) → nat_lt d k ≡ v → get_or new k 0 ≤ k
    go k le true v =
        omega (arith, ap (λ l. get_or {A = ℕ} l k 0) q, next_levels_above d e levels k (grind arith) le (omega (arith, p.0)), p.1 d (omega arith), lt_of v)
      where
        lt_of : nat_lt d k ≡ true → d < k
        lt_of w = grind arith
    go k le false v = omega (arith, ap (λ l. get_or {A = ℕ} l k 0) q, next_levels_before d e levels k (le_of v), p.1 k (le_of v))
      where
        le_of : nat_lt d k ≡ false → k ≤ d
        le_of w = grind arith

-- a line that doesn't go deeper
pub sound_less : (d e : ℕ) (levels : List ℕ) → e ≤ d → Sound d levels → Sound e levels
sound_less d e levels le p = (p.0, λ k lt. p.1 k (omega arith))
