-- The gaps of the whole text are the gaps of the remaining lines at its beginning.
use Rattle.std.proofs.Common.{◌≡◌, ◌∙◌, ◌+◌, ◌-◌, ◌++◌, ◌<◌, ◌≤◌, ℕ, suc, zero, Bool, true, false, List, [], ◌∷◌, Option, None, length, ap, ap₂, refl, sym, arith, subst, add_assoc, get_or, min, length-append, add-zero, replicate}
use Rattle.std.specs.Prelude.{filter, nat_lt, if◌then◌else◌, map, IsTrue}
use Rattle.std.specs.List.{flat_map}
use Rattle.std.proofs.lemmas.List.{append-nil, length-replicate}
use Rattle.std.proofs.lemmas.List.Elements.{filter-append}
use Rattle.hcl_tokens.specs.Lexemes.{Lexeme}
use Rattle.hcl_tokens.specs.declared.token.Kind.{Kind}
use Rattle.hcl_layout.specs.Cells.{assign_cell, running_comment, trailing_comment}
use Rattle.hcl_grammar.specs.Items.{deepen}
use Rattle.hcl_layout.specs.Inner.Depths.{net_of_kind, BalancedFrom, Steps, depth_after, fresh_levels, level_at, next_levels}
use Rattle.hcl_layout.specs.Gaps.{aligned_gaps, aligned_gaps_by, align, gaps, indented_gaps, line_gaps, plain_gaps, zip_with}
use Rattle.hcl_tokens.specs.Balanced.{is_closer, is_opener, max_open}
use Rattle.hcl_layout.specs.Levels.{Net, is_above, levels, net_of, no_net, plus}
use Rattle.hcl_layout.specs.Lines.{Line, ends_line, lines, onto_line}
use Rattle.hcl_layout.specs.Inner.Stream.{assign_column, assign_widths, assign_stream, comment_column, comment_widths, comment_stream, level_stream, first_gaps}
use Rattle.hcl_layout.proofs.BalanceLemmas.{disjoint}
use Rattle.hcl_layout.proofs.ColumnLemmas.{columns_at, before_run}
use Rattle.hcl_layout.proofs.LevelLemmas.{Counted, Is, above_is, count, deeper_is, filter_higher, filter_lower, groups_then, is_deeper, levels_from, levels_of_state, next_levels_above, next_levels_before, next_levels_length}

-- ---- depths of nets

step_by : (o c : Bool) (d : ℕ) (s : Net) → Is d s → (o ≡ true → c ≡ false) → (IsTrue c → 0 < d)
    → Is (d + (if o then 1 else 0) - (if c then 1 else 0)) (plus s (record { opens = if o then 1 else 0; closes = if c then 1 else 0 }))
step_by true true d s p q r = absurd (cc (q refl))
step_by true false d s p q r = omega arith
step_by false true d s p q r = omega (arith, r refl)
step_by false false d s p q r = omega arith

step_is : (k : Kind) (d : ℕ) (s : Net) → Is d s → Steps d k → Is (deepen d k) (plus s (net_of_kind k))
step_is k d s p q = step_by (is_opener k) (is_closer k) d s p (disjoint k) q.1

plus_assoc : (a b c : Net) → plus (plus a b) c ≡ plus a (plus b c)
plus_assoc a b c = ap₂ net (add_assoc a.opens b.opens c.opens) (add_assoc a.closes b.closes c.closes)
  where
    net : ℕ → ℕ → Net
    net o k = record { opens = o; closes = k }

pub after_is : (l : Line) (d : ℕ) (s : Net) → Is d s → BalancedFrom d l → Is (depth_after d l) (plus s (net_of l))
after_is [] d s p q = omega arith
after_is (t ∷ l) d s p q =
    subst (λ n. Is (depth_after (deepen d t.kind) l) n) (plus_assoc s (net_of_kind t.kind) (net_of l))
    (after_is l (deepen d t.kind) (plus s (net_of_kind t.kind)) (step_is t.kind d s p q.0) q.1)

-- ---- line after line

abbrev pub BalancedLines : ℕ → List Line → Type 0
BalancedLines d [] = Unit {0}
BalancedLines d (l ∷ ls) = BalancedFrom d l × BalancedLines (depth_after d l) ls

onto_balanced : (t : Lexeme) (d : ℕ) (ls : List Line) → Steps d t.kind → BalancedLines (deepen d t.kind) ls → BalancedLines d (onto_line t ls)
onto_balanced t d [] p q = ((p, tt), tt)
onto_balanced t d (l ∷ ls) p q = ((p, q.0), q.1)

pub balanced_lines : (ts : List Lexeme) (d : ℕ) → BalancedFrom d ts → BalancedLines d (lines ts)
balanced_lines [] d p = tt
balanced_lines (t ∷ ts) d p = go (balanced_lines ts (deepen d t.kind) p.1) (ends_line t) refl
  where
    go : BalancedLines (deepen d t.kind) (lines ts) → (v : Bool) → ends_line t ≡ v → BalancedLines d (lines (t ∷ ts))
    go r true e = rw e ((p.0, tt), r)
    go r false e = rw e (onto_balanced t d (lines ts) p.0 r)

-- nor will more be open later
step_low : (o c : Bool) (d : ℕ) → (IsTrue o → d < max_open) → d ≤ max_open → d + (if o then 1 else 0) - (if c then 1 else 0) ≤ max_open
step_low true true d p q = omega (arith, p refl)
step_low true false d p q = omega (arith, p refl)
step_low false true d p q = omega arith
step_low false false d p q = omega (arith, q)

pub deepen_low : (k : Kind) (d : ℕ) → Steps d k → d ≤ max_open → deepen d k ≤ max_open
deepen_low k d p q = step_low (is_opener k) (is_closer k) d p.0 q

pub after_low : (l : Line) (d : ℕ) → BalancedFrom d l → d ≤ max_open → depth_after d l ≤ max_open
after_low [] d p q = q
after_low (t ∷ l) d p q = after_low l (deepen d t.kind) p.1 (deepen_low t.kind d p.0 q)

-- ---- levels

-- another group, if it began above the depth
count_more : (m sum : Net) (groups : List Net) (b : Bool) → is_deeper m sum ≡ b → count m (groups ++ sum ∷ []) ≡ count m groups + (if b then 1 else 0)
count_more m sum groups true e = ap length (filter-append (λ g. is_deeper m g) groups (sum ∷ [])) ∙ length-append (filter (λ g. is_deeper m g) groups) (filter (λ g. is_deeper m g) (sum ∷ [])) ∙ rw e refl
count_more m sum groups false e = ap length (filter-append (λ g. is_deeper m g) groups (sum ∷ [])) ∙ length-append (filter (λ g. is_deeper m g) groups) (filter (λ g. is_deeper m g) (sum ∷ [])) ∙ rw e refl

deeper_below : (d e : ℕ) (sum : Net) (groups : List Net) (levels : List ℕ) → Is d sum → d < e → e ≤ max_open → Counted d groups levels
    → (k : ℕ) (m : Net) → Is k m → k ≤ e → count m (groups ++ sum ∷ []) ≡ get_or (next_levels d e levels) k 0
deeper_below d e sum groups levels p lt low c k m q le = go (nat_lt d k) refl
  where
    go : (v : Bool) → nat_lt d k ≡ v → count m (groups ++ sum ∷ []) ≡ get_or (next_levels d e levels) k 0
    go true v =
        let above : d < k = grind arith in
        let all : count m groups ≡ length groups = ap length (c.all k m q (omega arith)) in
        let here : length groups ≡ get_or levels d 0 = sym (ap length (c.all d sum p (omega arith))) ∙ c.below d sum p (omega arith) in
        count_more m sum groups true (deeper_is k d m sum q p ∙ v) ∙ ap (λ x. x + 1) (all ∙ here) ∙ sym (next_levels_above d e levels k above le (omega (arith, c.room)))
    go false v =
        let low : k ≤ d = grind arith in
        count_more m sum groups false (deeper_is k d m sum q p ∙ v) ∙ add-zero _ ∙ c.below k m q low ∙ sym (next_levels_before d e levels k low)

deeper_all : (d e : ℕ) (sum : Net) (groups : List Net) (levels : List ℕ) → Is d sum → d < e → Counted d groups levels
    → (k : ℕ) (m : Net) → Is k m → e ≤ k → filter (λ g. is_deeper m g) (groups ++ sum ∷ []) ≡ groups ++ sum ∷ []
deeper_all d e sum groups levels p lt c k m q le =
    let now : nat_lt d k ≡ true = grind arith in
    let above : is_deeper m sum ≡ true = deeper_is k d m sum q p ∙ now in
    let one : filter (λ g. is_deeper m g) (sum ∷ []) ≡ sum ∷ [] = rw above refl in
    filter-append (λ g. is_deeper m g) groups (sum ∷ []) ∙ ap₂ (λ (a b : List Net). a ++ b) (c.all k m q (omega arith)) one

-- another line
counted_then : (d e : ℕ) (sum n : Net) (groups : List Net) (levels : List ℕ) → Is d sum → Is e (plus sum n) → e ≤ max_open → Counted d groups levels
    → Counted e (groups_then sum groups n) (next_levels d e levels)
counted_then d e sum n groups levels p q low c = go (nat_lt d e) refl
  where
    go : (v : Bool) → nat_lt d e ≡ v → Counted e (groups_then sum groups n) (next_levels d e levels)
    go true v =
        let lt : d < e = grind arith in
        let same : filter (λ g. is_deeper (plus sum n) g) groups ≡ groups = c.all e (plus sum n) q (omega arith) in
        let above : is_above n ≡ true = above_is d e sum n p q ∙ v in
        let now : groups_then sum groups n ≡ groups ++ sum ∷ [] = ap₂ (λ (l : List Net) (b : Bool). l ++ (if b then sum ∷ [] else [])) same above in
        subst (λ g. Counted e g (next_levels d e levels)) (sym now)
        (record { room = next_levels_length d e levels ∙ c.room; below = deeper_below d e sum groups levels p lt low c; all = deeper_all d e sum groups levels p lt c })
    go false v =
        let le : e ≤ d = grind arith in
        let above : is_above n ≡ false = above_is d e sum n p q ∙ v in
        let kept : List Net = filter (λ g. is_deeper (plus sum n) g) groups in
        let now : groups_then sum groups n ≡ kept = ap (λ (b : Bool). kept ++ (if b then sum ∷ [] else [])) above ∙ append-nil kept in
        subst (λ g. Counted e g (next_levels d e levels)) (sym now)
        (record {
          room = next_levels_length d e levels ∙ c.room;
          below = λ k m r low. ap length (filter_lower k e m (plus sum n) groups r q low) ∙ c.below k m r (omega arith) ∙ sym (next_levels_before d e levels k (omega arith));
          all = λ k m r high. filter_higher k e m (plus sum n) groups r q high;
        })

-- the level of a line
level_is : (d e : ℕ) (sum now : Net) (groups : List Net) (levels : List ℕ) → Is d sum → Is e now → Counted d groups levels → count now groups ≡ level_at d e levels
level_is d e sum now groups levels p q c = go (nat_lt d e) refl
  where
    go : (v : Bool) → nat_lt d e ≡ v → count now groups ≡ level_at d e levels
    go true v =
        let least : min d e ≡ d = grind arith in
        ap length (c.all e now q (grind arith)) ∙ sym (ap length (c.all d sum p (omega arith))) ∙ c.below d sum p (omega arith) ∙ ap (λ k. get_or levels k 0) (sym least)
    go false v =
        let least : min d e ≡ e = grind arith in
        c.below e now q (grind arith) ∙ ap (λ k. get_or levels k 0) (sym least)

leveled_is : (ls : List Line) (d : ℕ) (s : Net) (groups : List Net) (levels : List ℕ) → Is d s → Counted d groups levels → d ≤ max_open → BalancedLines d ls
    → zip_with plain_gaps (levels_from s groups (map net_of ls)) ls ≡ level_stream d levels ls
leveled_is [] d s groups levels p c low r = refl
leveled_is (l ∷ ls) d s groups levels p c low r =
    let now : Is (depth_after d l) (plus s (net_of l)) = after_is l d s p r.0 in
    let low' : depth_after d l ≤ max_open = after_low l d r.0 low in
    ap₂ (λ (k : ℕ) (r : List (List ℕ)). plain_gaps k l ∷ r) (level_is d (depth_after d l) s (plus s (net_of l)) groups levels p now c)
    (leveled_is ls (depth_after d l) (plus s (net_of l)) (groups_then s groups (net_of l)) (next_levels d (depth_after d l) levels) now
    (counted_then d (depth_after d l) s (net_of l) groups levels p now low' c) low' r.1)

pub zeros_get : (n k : ℕ) → get_or {A = ℕ} (replicate n 0) k 0 ≡ zero
zeros_get zero k = refl
zeros_get (suc n) zero = refl
zeros_get (suc n) (suc k) = zeros_get n k

pub leveled_all : (ls : List Line) → BalancedLines 0 ls → indented_gaps ls ≡ level_stream 0 fresh_levels ls
leveled_all ls p =
    ap (λ k. zip_with plain_gaps k ls) (levels_of_state [] (map net_of ls))
    ∙ leveled_is ls 0 no_net [] fresh_levels refl (record { room = length-replicate {A = ℕ} (max_open + 1) 0; below = λ k m r low. sym (zeros_get (max_open + 1) k); all = λ k m r high. refl }) (omega arith) p

-- ---- runs

assigned_is : (ls : List Line) (d : ℕ) (levels : List ℕ) (column : Option ℕ)
    → aligned_gaps_by assign_cell (level_stream d levels ls) ls (columns_at column (assign_widths d levels ls)) ≡ assign_stream d levels column ls
assigned_is [] d levels column = refl
assigned_is (l ∷ ls) d levels column =
    ap (λ r. align assign_cell (first_gaps d levels l) l (assign_column d levels column (l ∷ ls)) ∷ r)
    (assigned_is ls (depth_after d l) (next_levels d (depth_after d l) levels) (assign_column d levels column (l ∷ ls)))

commented_is : (ls : List Line) (d : ℕ) (levels : List ℕ) (column comment : Option ℕ)
    → aligned_gaps_by trailing_comment (assign_stream d levels column ls) ls (columns_at comment (comment_widths d levels column ls)) ≡ comment_stream d levels column comment ls
commented_is [] d levels column comment = refl
commented_is (l ∷ ls) d levels column comment =
    ap (λ r. align trailing_comment (align assign_cell (first_gaps d levels l) l (assign_column d levels column (l ∷ ls))) l (comment_column d levels column comment (l ∷ ls)) ∷ r)
    (commented_is ls (depth_after d l) (next_levels d (depth_after d l) levels) (assign_column d levels column (l ∷ ls)) (comment_column d levels column comment (l ∷ ls)))

assigned_all : (ls : List Line) → BalancedLines 0 ls → aligned_gaps assign_cell assign_cell (indented_gaps ls) ls ≡ assign_stream 0 fresh_levels None ls
assigned_all ls p =
    ap (λ g. aligned_gaps assign_cell assign_cell g ls) (leveled_all ls p)
    ∙ ap (λ c. aligned_gaps_by assign_cell (level_stream 0 fresh_levels ls) ls c) (before_run (assign_widths 0 fresh_levels ls))
    ∙ assigned_is ls 0 fresh_levels None

commented_all : (ls : List Line) → BalancedLines 0 ls → line_gaps ls ≡ comment_stream 0 fresh_levels None None ls
commented_all ls p =
    ap (λ g. aligned_gaps trailing_comment running_comment g ls) (assigned_all ls p)
    ∙ ap (λ c. aligned_gaps_by trailing_comment (assign_stream 0 fresh_levels None ls) ls c) (before_run (comment_widths 0 fresh_levels None ls))
    ∙ commented_is ls 0 fresh_levels None None

-- the gaps of the text are those of the remaining lines at its beginning
pub gaps_all : (ts : List Lexeme) → BalancedFrom 0 ts → gaps ts ≡ flat_map (λ g. g) (comment_stream 0 fresh_levels None None (lines ts))
gaps_all ts p = ap (flat_map (λ g. g)) (commented_all (lines ts) (balanced_lines ts 0 p))
