-- One walk along a line finds the facts of the line.
use Rattle.std.proofs.Common.{◌≡◌, ◌∙◌, ◌+◌, ◌-◌, ◌<◌, ◌≤◌, ◌==◌, ◌^◌, ◌&&◌, ◌||◌, not, ℕ, suc, zero, Bool, true, false, List, [], ◌∷◌, Option, Some, None, length, ap, ap₂, refl, sym, arith, subst, take, drop, add-one, get_or, drop-cons}
use Rattle.std.specs.Prelude.{if◌then◌else◌, is_some, slice_get, nat_eq}
use Rattle.std.specs.List.{list_any}
use Rattle.std.proofs.Math.ListN.{drop_of_length-le}
use Rattle.std.proofs.lemmas.Grind.{common_steps}
use Rattle.std.proofs.lemmas.Option.{get_or_from_slice_get, slice_get_within}
use Rattle.hcl_tokens.specs.Lexemes.{Lexeme}
use Rattle.hcl_tokens.specs.Balanced.{max_open}
use Rattle.hcl_tokens.specs.Kinds.{is}
use Rattle.hcl_tokens.specs.declared.token.Kind.{Kind}
use Rattle.hcl_layout.specs.Cells.{assign_cell, has_multiline, if_level, is_level, is_assignment, is_multiline, is_trailing, first_place_from, running_comment, trailing_comment, until}
use Rattle.hcl_grammar.specs.Items.{deepen}
use Rattle.hcl_layout.specs.Inner.Depths.{BalancedFrom, Steps, depth_after}
use Rattle.hcl_layout.specs.Levels.{Net, net_of}
use Rattle.hcl_layout.specs.Lines.{Line, ends_line, lines, onto_line}
use Rattle.hcl_layout.specs.Inner.Survey.{IsLine, assign_of, cell_if, facts_of, survey_start, survey_from, survey_step, step_of, survey_rest, takes_assign}
use Rattle.hcl_layout.specs.Inner.Survey.{Survey}
use Rattle.hcl_layout.proofs.NotedKindLemmas.{Stepped, steps_deepen}
use Rattle.hcl_layout.proofs.StreamLemmas.{after_is, after_low, deepen_low}

-- the token at a place, and the tokens after it
pub drop_at : (ts : List Lexeme) (i : ℕ) (t : Lexeme) → slice_get ts i ≡ Some t → drop i ts ≡ t ∷ drop (i + 1) ts
drop_at ts i t e =
    let within : i < length ts = slice_get_within ts i t e in
    let same : get_or ts i t ≡ t = get_or_from_slice_get ts i t t e in
    rw add-one (drop-cons ts i t within ∙ ap (λ (x : Lexeme). x ∷ drop (suc i) ts) same)

-- ---- the rest of a line

abbrev pub tail_of : Lexeme → List Lexeme → Line
tail_of last [] = []
tail_of last (t ∷ ts) = if ends_line last then [] else t ∷ tail_of t ts

abbrev pub left_of : Lexeme → List Lexeme → List Lexeme
left_of last [] = []
left_of last (t ∷ ts) = if ends_line last then t ∷ ts else left_of t ts

abbrev pub fold : Survey → Line → Survey
fold s [] = s
fold s (t ∷ l) = fold (survey_step s t) l

surveyed_fold : (ts : List Lexeme) (s : Survey) (last : Lexeme) → survey_rest s last ts ≡ fold s (tail_of last ts)
surveyed_fold [] s last = refl
surveyed_fold (t ∷ ts) s last = go (surveyed_fold ts (survey_step s t) t) (ends_line last) refl
  where
    go : survey_rest (survey_step s t) t ts ≡ fold (survey_step s t) (tail_of t ts) → (v : Bool) → ends_line last ≡ v → survey_rest s last (t ∷ ts) ≡ fold s (tail_of last (t ∷ ts))
    go r true e = rw e refl
    go r false e = rw e r

lines_tail : (ts : List Lexeme) (t : Lexeme) → lines (t ∷ ts) ≡ (t ∷ tail_of t ts) ∷ lines (left_of t ts)
lines_tail [] t = go (ends_line t) refl
  where
    go : (v : Bool) → ends_line t ≡ v → lines (t ∷ []) ≡ (t ∷ []) ∷ []
    go true e = rw e refl
    go false e = rw e refl
lines_tail (u ∷ ts) t = go (lines_tail ts u) (ends_line t) refl
  where
    go : lines (u ∷ ts) ≡ (u ∷ tail_of u ts) ∷ lines (left_of u ts) → (v : Bool) → ends_line t ≡ v → lines (t ∷ (u ∷ ts)) ≡ (t ∷ tail_of t (u ∷ ts)) ∷ lines (left_of t (u ∷ ts))
    go r true e = rw e refl
    go r false e = rw e (ap (onto_line t) r)

tail_take : (ts : List Lexeme) (t : Lexeme) → take (length (tail_of t ts)) ts ≡ tail_of t ts
tail_take [] t = refl
tail_take (u ∷ ts) t = go (tail_take ts u) (ends_line t) refl
  where
    go : take (length (tail_of u ts)) ts ≡ tail_of u ts → (v : Bool) → ends_line t ≡ v → take (length (tail_of t (u ∷ ts))) (u ∷ ts) ≡ tail_of t (u ∷ ts)
    go r true e = rw e refl
    go r false e = rw e (ap (λ l. u ∷ l) r)

left_drop : (ts : List Lexeme) (t : Lexeme) → drop (length (tail_of t ts)) ts ≡ left_of t ts
left_drop [] t = refl
left_drop (u ∷ ts) t = go (left_drop ts u) (ends_line t) refl
  where
    go : drop (length (tail_of u ts)) ts ≡ left_of u ts → (v : Bool) → ends_line t ≡ v → drop (length (tail_of t (u ∷ ts))) (u ∷ ts) ≡ left_of t (u ∷ ts)
    go r true e = rw e refl
    go r false e = rw e r

tail_short : (ts : List Lexeme) (t : Lexeme) → length (tail_of t ts) ≤ length ts
tail_short [] t = omega arith
tail_short (u ∷ ts) t = go (tail_short ts u) (ends_line t) refl
  where
    go : length (tail_of u ts) ≤ length ts → (v : Bool) → ends_line t ≡ v → length (tail_of t (u ∷ ts)) ≤ length (u ∷ ts)
    go r true e = rw e (omega arith)
    go r false e = rw e (omega arith)

-- ---- the state of the walk

fold_len : (l : Line) (s : Survey) → (fold s l).len ≡ s.len + length l
fold_len [] s = omega arith
fold_len (t ∷ l) s = omega (arith, fold_len l (survey_step s t))

fold_depth : (l : Line) (s : Survey) → (fold s l).depth ≡ depth_after s.depth l
fold_depth [] s = refl
fold_depth (t ∷ l) s = fold_depth l (survey_step s t)

or_assoc : (a b c : Bool) → ((a || b) || c) ≡ (a || (b || c))
or_assoc true b c = refl
or_assoc false b c = refl

fold_multiline : (l : Line) (s : Survey) → (fold s l).multiline ≡ (s.multiline || list_any is_multiline l)
fold_multiline [] s = go s.multiline
  where
    go : (b : Bool) → b ≡ (b || false)
    go true = refl
    go false = refl
fold_multiline (t ∷ l) s = fold_multiline l (survey_step s t) ∙ or_assoc s.multiline (is_multiline t) (list_any is_multiline l)

-- after the trailing comment nothing changes
record Same (s r : Survey) : Type 0 where
  comment : r.comment ≡ s.comment
  body : r.body_depth ≡ s.body_depth
  assign : r.assign ≡ s.assign
  sign_depth : r.sign_depth ≡ s.sign_depth

same_noted : (s : Survey) (t : Lexeme) (i : ℕ) → s.comment ≡ Some i → Same s (survey_step s t)
same_noted s t i e = record { comment = rw e refl; body = rw e refl; assign = rw e refl; sign_depth = rw e refl }

stays : (l : Line) (s : Survey) (i : ℕ) → s.comment ≡ Some i → Same s (fold s l)
stays [] s i e = record { comment = refl; body = refl; assign = refl; sign_depth = refl }
stays (t ∷ l) s i e =
    let one = same_noted s t i e in
    let more = stays l (survey_step s t) i (one.comment ∙ e) in
    record { comment = more.comment ∙ one.comment; body = more.body ∙ one.body; assign = more.assign ∙ one.assign; sign_depth = more.sign_depth ∙ one.sign_depth }

-- the comment, and the depth before it
found : (l : Line) (s : Survey) → s.comment ≡ None → s.body_depth ≡ s.depth
    → ((fold s l).comment ≡ first_place_from is_trailing s.len l) × ((fold s l).body_depth ≡ depth_after s.depth (until is_trailing l))
found [] s e f = (e, f)
found (t ∷ l) s e f =
    go (λ c. stays l (survey_step s t) s.len c) (λ c d. found l (survey_step s t) c d) (is_trailing t) refl
  where
    go : ((survey_step s t).comment ≡ Some s.len → Same (survey_step s t) (fold (survey_step s t) l))
        → ((survey_step s t).comment ≡ None → (survey_step s t).body_depth ≡ (survey_step s t).depth → ((fold (survey_step s t) l).comment ≡ first_place_from is_trailing (s.len + 1) l) × ((fold (survey_step s t) l).body_depth ≡ depth_after (deepen s.depth t.kind) (until is_trailing l)))
        → (v : Bool) → is_trailing t ≡ v
        → ((fold s (t ∷ l)).comment ≡ first_place_from is_trailing s.len (t ∷ l)) × ((fold s (t ∷ l)).body_depth ≡ depth_after s.depth (until is_trailing (t ∷ l)))
    go a b true v =
        let here : (survey_step s t).comment ≡ Some s.len = rw (e, v) refl in
        let body : (survey_step s t).body_depth ≡ s.depth = rw (e, v) f in
        let same = a here in
        rw v (same.comment ∙ here, same.body ∙ body)
    go a b false v =
        let here : (survey_step s t).comment ≡ None = rw (e, v) refl in
        let body : (survey_step s t).body_depth ≡ (survey_step s t).depth = rw (e, v) refl in
        rw v (b here body)

some_same : (a b : ℕ) → Some a ≡ Some b → a ≡ b
some_same a b e = cc

pub place_within : (test : Lexeme → Bool) (i : ℕ) (line : Line) (j : ℕ) → first_place_from test i line ≡ Some j → (i ≤ j) × (j < i + length line)
place_within test i [] j p = cc
place_within test i (t ∷ line) j p = go (place_within test (i + 1) line j) (test t) refl
  where
    go : (first_place_from test (i + 1) line ≡ Some j → (i + 1 ≤ j) × (j < (i + 1) + length line)) → (v : Bool) → test t ≡ v → (i ≤ j) × (j < i + length (t ∷ line))
    go r true e = let h : Some i ≡ Some j = rw e at p in grind arith
    go r false e = let h : first_place_from test (i + 1) line ≡ Some j = rw e at p in (omega (arith, (r h).0), omega (arith, (r h).1))

-- a sign that was found stays
kept : (l : Line) (s : Survey) (i : ℕ) → s.assign ≡ Some i → ((fold s l).assign ≡ Some i) × ((fold s l).sign_depth ≡ s.sign_depth)
kept [] s i e = (e, refl)
kept (t ∷ l) s i e =
    let no : takes_assign s t ≡ false = rw e (never (not (is_some s.comment)) (not (is_trailing t)) (is_assignment t)) in
    let assign : (survey_step s t).assign ≡ Some i = rw no e in
    let depth : (survey_step s t).sign_depth ≡ s.sign_depth = rw no refl in
    let more = kept l (survey_step s t) i assign in
    (more.0, more.1 ∙ depth)
  where
    never : (a b c : Bool) → (a && b && false && c) ≡ false
    never true true c = refl
    never true false c = refl
    never false b c = refl

-- the sign is the first before the trailing comment
signed : (l : Line) (s : Survey) → s.comment ≡ None → s.assign ≡ None
    → ((fold s l).assign ≡ first_place_from is_assignment s.len (until is_trailing l))
    × ((i : ℕ) → first_place_from is_assignment s.len (until is_trailing l) ≡ Some (s.len + i) → (fold s l).sign_depth ≡ depth_after s.depth (take i (until is_trailing l)))
signed [] s e f = (f, λ i p. cc)
signed (t ∷ l) s e f =
    go (λ c. stays l (survey_step s t) s.len c) (λ c. kept l (survey_step s t) s.len c) (λ c d. signed l (survey_step s t) c d) (is_trailing t) refl (is_assignment t) refl
  where
    b : Line
    b = until is_trailing l

    go : ((survey_step s t).comment ≡ Some s.len → Same (survey_step s t) (fold (survey_step s t) l))
        → ((survey_step s t).assign ≡ Some s.len → ((fold (survey_step s t) l).assign ≡ Some s.len) × ((fold (survey_step s t) l).sign_depth ≡ (survey_step s t).sign_depth))
        → ((survey_step s t).comment ≡ None → (survey_step s t).assign ≡ None
        → ((fold (survey_step s t) l).assign ≡ first_place_from is_assignment (s.len + 1) b) × ((i : ℕ) → first_place_from is_assignment (s.len + 1) b ≡ Some ((s.len + 1) + i) → (fold (survey_step s t) l).sign_depth ≡ depth_after (deepen s.depth t.kind) (take i b)))
        → (v : Bool) → is_trailing t ≡ v → (w : Bool) → is_assignment t ≡ w
        → ((fold s (t ∷ l)).assign ≡ first_place_from is_assignment s.len (until is_trailing (t ∷ l)))
        × ((i : ℕ) → first_place_from is_assignment s.len (until is_trailing (t ∷ l)) ≡ Some (s.len + i) → (fold s (t ∷ l)).sign_depth ≡ depth_after s.depth (take i (until is_trailing (t ∷ l))))
    go x y z true v w q =
        let here : (survey_step s t).comment ≡ Some s.len = rw (e, v) refl in
        let assign : (survey_step s t).assign ≡ None = rw (e, v) f in
        let same = x here in
        rw v (same.assign ∙ assign, λ i p. cc)
    go x y z false v true q =
        let assign : (survey_step s t).assign ≡ Some s.len = rw (e, v, f, q) refl in
        let depth : (survey_step s t).sign_depth ≡ s.depth = rw (e, v, f, q) refl in
        let same = y assign in
        let first : (i : ℕ) → Some s.len ≡ Some (s.len + i) → (fold s (t ∷ l)).sign_depth ≡ depth_after s.depth (take i (t ∷ b)) =
        λ i p. (let zero_is : i ≡ zero = omega (arith, some_same s.len (s.len + i) p) in same.1 ∙ depth ∙ ap (λ k. depth_after s.depth (take k (t ∷ b))) (sym zero_is)) in
        rw (v, q) (same.0, first)
    go x y z false v false q =
        let here : (survey_step s t).comment ≡ None = rw (e, v) refl in
        let assign : (survey_step s t).assign ≡ None = rw (e, v, f, q) refl in
        let more = z here assign in
        let later : (i : ℕ) → first_place_from is_assignment (s.len + 1) b ≡ Some (s.len + i) → (fold s (t ∷ l)).sign_depth ≡ depth_after s.depth (take i (t ∷ b)) =
        λ i p. later_by i p more.1 in
        rw (v, q) (more.0, later)
      where
        later_by : (i : ℕ) → first_place_from is_assignment (s.len + 1) b ≡ Some (s.len + i)
            → ((j : ℕ) → first_place_from is_assignment (s.len + 1) b ≡ Some ((s.len + 1) + j) → (fold (survey_step s t) l).sign_depth ≡ depth_after (deepen s.depth t.kind) (take j b))
            → (fold s (t ∷ l)).sign_depth ≡ depth_after s.depth (take i (t ∷ b))
        later_by zero p r = absurd (omega (arith, place_within is_assignment (s.len + 1) b (s.len + 0) p))
        later_by (suc i) p r = r i (p ∙ ap (λ (k : ℕ). Some k) (omega arith))

-- ---- the facts of a line

until_balanced : (l : Line) (d : ℕ) → BalancedFrom d l → BalancedFrom d (until is_trailing l)
until_balanced [] d p = tt
until_balanced (t ∷ l) d p = go (until_balanced l (deepen d t.kind) p.1) (is_trailing t) refl
  where
    go : BalancedFrom (deepen d t.kind) (until is_trailing l) → (v : Bool) → is_trailing t ≡ v → BalancedFrom d (until is_trailing (t ∷ l))
    go r true e = rw e tt
    go r false e = rw e (p.0, r)

depth_cut : (n d : ℕ) (l : Line) → depth_after (depth_after d (take n l)) (drop n l) ≡ depth_after d l
depth_cut zero d l = refl
depth_cut (suc n) d [] = refl
depth_cut (suc n) d (t ∷ l) = depth_cut n (deepen d t.kind) l

pub balanced_take : (n d : ℕ) (ts : List Lexeme) → BalancedFrom d ts → BalancedFrom d (take n ts)
balanced_take zero d ts p = tt
balanced_take (suc n) d [] p = tt
balanced_take (suc n) d (t ∷ ts) p = (p.0, balanced_take n (deepen d t.kind) ts p.1)

pub balanced_drop : (n d : ℕ) (ts : List Lexeme) → BalancedFrom d ts → BalancedFrom (depth_after d (take n ts)) (drop n ts)
balanced_drop zero d ts p = p
balanced_drop (suc n) d [] p = tt
balanced_drop (suc n) d (t ∷ ts) p = balanced_drop n (deepen d t.kind) ts p.1

-- the tokens after a place close what they open if the depths are the same
level_same : (n d : ℕ) (l : Line) → BalancedFrom d l → is_level (net_of (drop n l)) ≡ (depth_after d (take n l) == depth_after d l)
level_same n d l p =
    let before : ℕ = depth_after d (take n l) in
    let net : Net = net_of (drop n l) in
    let same : before + net.opens ≡ depth_after before (drop n l) + (0 + net.closes) = after_is (drop n l) before (record { opens = before; closes = 0 }) (omega arith) (balanced_drop n d l p) in
    let whole : depth_after before (drop n l) ≡ depth_after d l = depth_cut n d l in
    equal before (depth_after d l) net.opens net.closes (omega (arith, same, whole))
  where
    equal : (a b o c : ℕ) → a + o ≡ b + c → nat_eq o c ≡ nat_eq a b
    equal a b o c e = grind arith

cell_same : (line : Line) (assign : Option ℕ) (b : Bool) → ((i : ℕ) → assign ≡ Some i → is_level (net_of (drop i line)) ≡ b) → if_level line assign ≡ cell_if b assign
cell_same line None true p = refl
cell_same line None false p = refl
cell_same line (Some i) b p = rw (p i refl) (go b)
  where
    go : (v : Bool) → (if v then Some i else None) ≡ cell_if v (Some i)
    go true = refl
    go false = refl

cell_multiline : (a : Bool) (x y : Option ℕ) (b : Bool) → x ≡ cell_if b y → cell_if (not a && b) y ≡ (if a then None else x)
cell_multiline true x y b e = none y
  where
    none : (y : Option ℕ) → cell_if false y ≡ None
    none y = refl
cell_multiline false x y b e = sym e

-- the assign cell of the line that begins with the token
cell_is : (l : Line) (d : ℕ) (t : Lexeme) → BalancedFrom d (t ∷ l) → assign_of (fold (survey_start d t) l) ≡ assign_cell (t ∷ l)
cell_is l d t p =
    let s : Survey = survey_start d t in
    let b : Line = until is_trailing l in
    let depth = found l s refl refl in
    let assign = signed l s refl refl in
    let whole : BalancedFrom d (t ∷ b) = (p.0, until_balanced l (deepen d t.kind) p.1) in
    let level : (i : ℕ) → first_place_from is_assignment 1 b ≡ Some i → is_level (net_of (drop i (t ∷ b))) ≡ ((fold s l).sign_depth == (fold s l).body_depth) =
    λ i e. level_at_sign i e depth.1 assign.1 whole in
    cell_multiline (fold s l).multiline (if_level (t ∷ b) (first_place_from is_assignment 1 b)) (fold s l).assign ((fold s l).sign_depth == (fold s l).body_depth)
    (cell_same (t ∷ b) (first_place_from is_assignment 1 b) ((fold s l).sign_depth == (fold s l).body_depth) level ∙ ap (cell_if ((fold s l).sign_depth == (fold s l).body_depth)) (sym assign.0))
    ∙ ap (λ (v : Bool). if v then None else if_level (t ∷ b) (first_place_from is_assignment 1 b)) (fold_multiline l s)
  where
    level_at_sign : (i : ℕ) → first_place_from is_assignment 1 (until is_trailing l) ≡ Some i → (fold (survey_start d t) l).body_depth ≡ depth_after (deepen d t.kind) (until is_trailing l)
        → ((j : ℕ) → first_place_from is_assignment 1 (until is_trailing l) ≡ Some (1 + j) → (fold (survey_start d t) l).sign_depth ≡ depth_after (deepen d t.kind) (take j (until is_trailing l)))
        → BalancedFrom d (t ∷ until is_trailing l)
        → is_level (net_of (drop i (t ∷ until is_trailing l))) ≡ ((fold (survey_start d t) l).sign_depth == (fold (survey_start d t) l).body_depth)
    level_at_sign zero e p q r = absurd (omega (arith, place_within is_assignment 1 (until is_trailing l) 0 e))
    level_at_sign (suc i) e p q r =
        level_same (suc i) d (t ∷ until is_trailing l) r ∙ ap₂ nat_eq (sym (q i (e ∙ ap (λ (k : ℕ). Some k) (omega arith)))) (sym p)

pub is_line : (ts : List Lexeme) (at d : ℕ) (t : Lexeme) (s : Survey) → slice_get ts at ≡ Some t → length ts ≤ 2 ^ 22 → BalancedFrom d (drop at ts) → d ≤ max_open
    → s ≡ survey_rest (survey_start d t) t (drop (at + 1) ts) → IsLine ts at d (facts_of s)
is_line ts at d t s e few p low q =
    let rest : List Lexeme = drop (at + 1) ts in
    let l : Line = tail_of t rest in
    let n : ℕ = length l in
    let f : Survey = fold (survey_start d t) l in
    let cut : drop at ts ≡ t ∷ rest = drop_at ts at t e in
    let same : s ≡ f = q ∙ surveyed_fold rest (survey_start d t) t in
    let len : s.len ≡ suc n = ap (λ (x : Survey). x.len) same ∙ fold_len l (survey_start d t) ∙ omega arith in
    let within : at < length ts = slice_get_within ts at t e in
    let short : n ≤ length rest = tail_short rest t in
    let all : length rest ≡ length ts - (at + 1) = grind (arith, common_steps) in
    let line : take s.len (drop at ts) ≡ t ∷ l = ap₂ take len cut ∙ ap (λ x. t ∷ x) (tail_take rest t) in
    let after : drop (at + s.len) ts ≡ left_of t rest = ap (λ k. drop (at + k) ts) len ∙ there at n ∙ left_drop rest t in
    let balanced : BalancedFrom d (t ∷ l) = subst (BalancedFrom d) line (balanced_take s.len d (drop at ts) p) in
    let depth : s.depth ≡ depth_after d (t ∷ l) = ap (λ (x : Survey). x.depth) same ∙ fold_depth l (survey_start d t) in
    let comment : s.comment ≡ trailing_comment (t ∷ l) = ap (λ (x : Survey). x.comment) same ∙ (found l (survey_start d t) refl refl).0 in
    let multiline : s.multiline ≡ has_multiline (t ∷ l) = ap (λ (x : Survey). x.multiline) same ∙ fold_multiline l (survey_start d t) in
    record {
      some = omega arith;
      within = omega arith;
      fits = omega (arith, few);
      cut = ap lines cut ∙ lines_tail rest t ∙ ap₂ (λ (a : Line) (b : List Lexeme). a ∷ lines b) (sym line) (sym after);
      depth = depth ∙ ap (depth_after d) (sym line);
      low = subst (λ k. k ≤ max_open) (sym depth) (after_low (t ∷ l) d balanced low);
      rest = subst (λ k. BalancedFrom k (drop (at + s.len) ts)) (ap (depth_after d) line ∙ sym depth)
          (subst (BalancedFrom (depth_after d (take s.len (drop at ts)))) (further at s.len) (balanced_drop s.len d (drop at ts) p));
      assign = ap assign_of same ∙ cell_is l d t balanced ∙ ap assign_cell (sym line);
      comment = comment ∙ ap trailing_comment (sym line);
      running = ap₂ (λ (a : Bool) (x : Option ℕ). if a then None else x) multiline comment ∙ ap running_comment (sym line);
    }
  where
    there : (i k : ℕ) → drop (i + suc k) ts ≡ drop k (drop (i + 1) ts)
    there i k = grind (arith, common_steps)

    further : (i k : ℕ) → drop k (drop i ts) ≡ drop (i + k) ts
    further i k = grind (arith, common_steps)

-- ---- the walk, step by step

-- the tokens that are allowed at the front of balanced tokens
pub steps_at : (ts : List Lexeme) (i d : ℕ) (t : Lexeme) → slice_get ts i ≡ Some t → BalancedFrom d (drop i ts) → Steps d t.kind
steps_at ts i d t e p = (subst (BalancedFrom d) (drop_at ts i t e) p).0

pub rest_at : (ts : List Lexeme) (i d : ℕ) (t : Lexeme) → slice_get ts i ≡ Some t → BalancedFrom d (drop i ts) → BalancedFrom (deepen d t.kind) (drop (i + 1) ts)
rest_at ts i d t e p = (subst (BalancedFrom d) (drop_at ts i t e) p).1

pub low_at : (ts : List Lexeme) (i d : ℕ) (t : Lexeme) → slice_get ts i ≡ Some t → BalancedFrom d (drop i ts) → d ≤ max_open → deepen d t.kind ≤ max_open
low_at ts i d t e p low = deepen_low t.kind d (steps_at ts i d t e p) low

pub surveyed_going : (ts : List Lexeme) (s : Survey) (last : Lexeme) → ends_line last ≡ false → survey_rest s last ts ≡ survey_from s ts
surveyed_going [] s last e = refl
surveyed_going (t ∷ ts) s last e = rw e refl

pub going_more : (ts : List Lexeme) (i : ℕ) (t : Lexeme) (s whole : Survey) → slice_get ts i ≡ Some t → whole ≡ survey_from s (drop i ts) → whole ≡ survey_rest (survey_step s t) t (drop (i + 1) ts)
going_more ts i t s whole e p = p ∙ ap (survey_from s) (drop_at ts i t e)

-- another token of a line that continues after it
pub going_on : (ts : List Lexeme) (i : ℕ) (t : Lexeme) (s new whole : Survey) → slice_get ts i ≡ Some t → new ≡ survey_step s t → ends_line t ≡ false → whole ≡ survey_from s (drop i ts) → whole ≡ survey_from new (drop (i + 1) ts)
going_on ts i t s new whole e same goes p = going_more ts i t s whole e p ∙ surveyed_going (drop (i + 1) ts) (survey_step s t) t goes ∙ ap (λ u. survey_from u (drop (i + 1) ts)) (sym same)

pub surveyed_end : (xs : List Lexeme) (last : Lexeme) (s whole : Survey) → ends_line last ≡ true → whole ≡ survey_rest s last xs → s ≡ whole
surveyed_end [] last s whole e p = sym p
surveyed_end (x ∷ xs) last s whole e p = sym (p ∙ rw e refl)

pub going_out : (ts : List Lexeme) (i : ℕ) (s whole : Survey) → length ts ≤ i → whole ≡ survey_from s (drop i ts) → s ≡ whole
going_out ts i s whole le p = sym (p ∙ ap (survey_from s) (drop_of_length-le ts le))

pub same_token : (ts : List Lexeme) (i : ℕ) (t u : Lexeme) → slice_get ts i ≡ Some t → slice_get ts i ≡ Some u → t ≡ u
same_token ts i t u p q = some_is t u (sym p ∙ q)
  where
    some_is : (x y : Lexeme) → Some x ≡ Some y → x ≡ y
    some_is x y e = cc

-- the effect of the step of the token there
pub step_at : (ts : List Lexeme) (i d step : ℕ) (t : Lexeme) (k : Kind) → slice_get ts i ≡ Some t → k ≡ t.kind → step ≡ step_of k → (step ≡ 46 → ⊥) → BalancedFrom d (drop i ts) → Stepped d step t.kind
step_at ts i d step t k e same is more p = steps_deepen t.kind d step (is ∙ ap step_of same) more (steps_at ts i d t e p)

-- ---- a token that needs a closer look, and the tokens after it

module _ (ts : List Lexeme) (at : ℕ) (t : Lexeme) (s new : Survey) where
  further : new ≡ survey_step s t → at + s.len + 1 ≡ at + new.len
  further same = let len : new.len ≡ s.len + 1 = ap (λ (x : Survey). x.len) same in omega (arith, len)

-- there is a token there
pub token_at : (ts : List Lexeme) (i : ℕ) → i < length ts → (t : Lexeme) × (slice_get ts i ≡ Some t)
token_at [] i lt = absurd (omega arith)
token_at (t ∷ ts) zero lt = (t, refl)
token_at (t ∷ ts) (suc i) lt = token_at ts i (omega arith)
