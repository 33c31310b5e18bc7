-- The newlines ahead, token by token from right to left, and where segments can begin.
use Rattle.std.proofs.Common.{◌≡◌, ◌∙◌, ap, sym, refl, ℕ, suc, zero, ◌+◌, ◌-◌, ◌<◌, ◌≤◌, Bool, true, false, cond, min, ap₂, subst, true≢false, List, [], ◌∷◌, ◌++◌, drop, length, get_or, set, replicate, reverse, arith, ◌⊎◌, inl, inr, ◌≢◌}
use Rattle.std.specs.Prelude.{Some, slice_get, ◌&&◌, ◌||◌}
use Rattle.std.proofs.lemmas.List.{reverse-append, get_or-set_same, get_or-set_other, length-set, length-replicate, drop_all}
use Rattle.std.proofs.lemmas.Bool.{false≢true, cases_eq}
use Rattle.hcl_tokens.specs.Lexemes.{Lexeme}
use Rattle.hcl_tokens.specs.declared.token.Kind.{Kind}
use Rattle.hcl_tokens.specs.declared.token.Kind.TheVariants as kind
use Rattle.hcl_tokens.specs.Kinds.{is}
use Rattle.hcl_grammar.specs.Items.{deepen, is_closed}
use Rattle.hcl_tokens.specs.Balanced.{is_closes, is_opens, nesting}
use Rattle.hcl_tokens.specs.declared.token.Nesting.{Nesting}
use Rattle.hcl_tokens.specs.declared.token.Nesting.TheVariants.{Opens, Closes, Neither}
use Rattle.hcl_syntax.specs.Inner.Segments.{AreEnds, CanBegin, first_len, is_passed, leads, newline_from, AreNewlinesAhead}
use Rattle.hcl_grammar.proofs.NumberedLemmas.{drop_at}

-- the effect of a kind on the depth
pub record Moves (k : Kind) (newline : Bool) (move : ℕ → ℕ) : Type 0 where
  pub newline_is : is kind.Newline k ≡ newline
  pub moves : (depth : ℕ) → deepen depth k ≡ move depth

flat : (d : ℕ) → d + 0 - 0 ≡ d
flat d = omega arith

up : (d : ℕ) → d + 1 - 0 ≡ d + 1
up d = omega arith

down : (d : ℕ) → d + 0 - 1 ≡ d - 1
down d = omega arith

pub at_newline : (k : Kind) → is kind.Newline k ≡ true → Moves k true (λ d. d)
at_newline kind.Newline e = record { newline_is = refl; moves = flat }
at_newline _ e = absurd (false≢true e)

pub at_opener : (k : Kind) → nesting k ≡ Opens → Moves k false (λ d. d + 1)
at_opener kind.ParenOpen e = record { newline_is = refl; moves = up }
at_opener kind.BracketOpen e = record { newline_is = refl; moves = up }
at_opener kind.BraceOpen e = record { newline_is = refl; moves = up }
at_opener kind.InterpOpen e = record { newline_is = refl; moves = up }
at_opener kind.ControlOpen e = record { newline_is = refl; moves = up }
at_opener _ e = absurd (false≢true (ap is_opens e))

pub at_closer : (k : Kind) → nesting k ≡ Closes → Moves k false (λ d. d - 1)
at_closer kind.ParenClose e = record { newline_is = refl; moves = down }
at_closer kind.BracketClose e = record { newline_is = refl; moves = down }
at_closer kind.BraceClose e = record { newline_is = refl; moves = down }
at_closer kind.SeqClose e = record { newline_is = refl; moves = down }
at_closer _ e = absurd (false≢true (ap is_closes e))

pub at_other : (k : Kind) → is_passed k ≡ true → Moves k false (λ d. d)
at_other kind.Newline e = absurd (false≢true e)
at_other kind.ParenOpen e = absurd (false≢true e)
at_other kind.BracketOpen e = absurd (false≢true e)
at_other kind.BraceOpen e = absurd (false≢true e)
at_other kind.InterpOpen e = absurd (false≢true e)
at_other kind.ControlOpen e = absurd (false≢true e)
at_other kind.ParenClose e = absurd (false≢true e)
at_other kind.BracketClose e = absurd (false≢true e)
at_other kind.BraceClose e = absurd (false≢true e)
at_other kind.SeqClose e = absurd (false≢true e)
at_other _ e = record { newline_is = refl; moves = flat }

-- a token that neither is a newline nor opens or closes anything is skipped
pub passed_is : (k other : Kind) → k ≡ other → is kind.Newline k ≡ false → nesting k ≡ Neither → is_passed other ≡ true
passed_is k other same plain neither = ap is_passed (sym same) ∙ rw (plain, neither) refl

-- the meaning of the two tests of a kind
pub opens_is : (n : Nesting) → is_opens n ≡ true → n ≡ Opens
opens_is Opens e = refl
opens_is _ e = absurd (cc)

pub closes_is : (n : Nesting) → (is_opens n || is_closes n) ≡ true → is_opens n ≡ false → n ≡ Closes
closes_is Closes e other = refl
closes_is _ e other = absurd (cc)

pub neither_is : (n : Nesting) → (is_opens n || is_closes n) ≡ false → n ≡ Neither
neither_is Neither e = refl
neither_is _ e = absurd (cc)

module _ (ts : List Lexeme) (n : ℕ) (t : Lexeme) (e : slice_get ts n ≡ Some t) where
  from_here : (d : ℕ) → newline_from ts d n ≡ n + cond (is kind.Newline t.kind && is_closed d) 0 (first_len (deepen d t.kind) (drop (n + 1) ts) + 1)
  from_here d = ap (λ r. n + first_len d r) (drop_at ts n t e)

  from_next : (d next : ℕ) → is kind.Newline t.kind ≡ false → deepen d t.kind ≡ next → newline_from ts d n ≡ newline_from ts next (n + 1)
  from_next d next plain moved =
      from_here d
      ∙ ap (λ b. n + cond (b && is_closed d) 0 (first_len (deepen d t.kind) (drop (n + 1) ts) + 1)) plain
      ∙ ap (λ m. n + (first_len m (drop (n + 1) ts) + 1)) moved
      ∙ omega arith

  from_newline : is kind.Newline t.kind ≡ true → newline_from ts 0 n ≡ n
  from_newline here = from_here 0 ∙ ap (λ b. n + cond (b && true) 0 (first_len (deepen 0 t.kind) (drop (n + 1) ts) + 1)) here ∙ omega arith

  from_deeper : (d : ℕ) → is kind.Newline t.kind ≡ true → deepen (suc d) t.kind ≡ suc d → newline_from ts (suc d) n ≡ newline_from ts (suc d) (n + 1)
  from_deeper d here moved =
      from_here (suc d)
      ∙ ap (λ b. n + cond (b && false) 0 (first_len (deepen (suc d) t.kind) (drop (n + 1) ts) + 1)) here
      ∙ ap (λ m. n + (first_len m (drop (n + 1) ts) + 1)) moved
      ∙ omega arith

  pub passes : (ahead : List ℕ) → is_passed t.kind ≡ true → AreNewlinesAhead ts ahead (n + 1) → AreNewlinesAhead ts ahead n
  passes ahead is h d = let m = at_other t.kind is in h d ∙ sym (from_next d d m.newline_is (m.moves d))

  pub opens : (old new : List ℕ) → nesting t.kind ≡ Opens → ((d : ℕ) → get_or (reverse new) d (length ts) ≡ get_or (reverse old) (suc d) (length ts)) → AreNewlinesAhead ts old (n + 1) → AreNewlinesAhead ts new n
  opens old new is popped h d =
      let m = at_opener t.kind is in
      let s : d + 1 ≡ suc d = omega arith in
      popped d ∙ h (suc d) ∙ sym (from_next d (suc d) m.newline_is (m.moves d ∙ s))

  pub closes : (old new : List ℕ) (last : ℕ) → nesting t.kind ≡ Closes → last ≡ get_or (reverse old) 0 (length ts) → new ≡ old ++ last ∷ [] → AreNewlinesAhead ts old (n + 1) → AreNewlinesAhead ts new n
  closes old new last is top pushed h d = ap (λ r. get_or r d (length ts)) (ap reverse pushed ∙ reverse-append old (last ∷ [])) ∙ by d
    where
      m : Moves t.kind false (λ k. k - 1)
      m = at_closer t.kind is

      by : (k : ℕ) → get_or (last ∷ reverse old) k (length ts) ≡ newline_from ts k n
      by zero = top ∙ h 0 ∙ sym (from_next 0 0 m.newline_is (m.moves 0))
      by (suc k) = let s : suc k - 1 ≡ k = omega arith in h k ∙ sym (from_next (suc k) k m.newline_is (m.moves (suc k) ∙ s))

  pub newline : (old mid new : List ℕ) → is kind.Newline t.kind ≡ true → ((d c : ℕ) → get_or (reverse mid) d c ≡ get_or (reverse old) (suc d) c) → new ≡ mid ++ n ∷ [] → AreNewlinesAhead ts old (n + 1)
      → AreNewlinesAhead ts new n
  newline old mid new is popped pushed h d = ap (λ r. get_or r d (length ts)) (ap reverse pushed ∙ reverse-append mid (n ∷ [])) ∙ by d
    where
      m : Moves t.kind true (λ k. k)
      m = at_newline t.kind is

      by : (k : ℕ) → get_or (n ∷ reverse mid) k (length ts) ≡ newline_from ts k n
      by zero = sym (from_newline m.newline_is)
      by (suc k) = popped k (length ts) ∙ h (suc k) ∙ sym (from_deeper k m.newline_is (m.moves (suc k)))

-- ---- the newlines ahead, with the first apart from the rest

pub last_after : (rest : List ℕ) (top d c : ℕ) → get_or (reverse (rest ++ top ∷ [])) (suc d) c ≡ get_or (reverse rest) d c
last_after rest top d c = ap (λ r. get_or r (suc d) c) (reverse-append rest (top ∷ []))

pub last_first : (rest : List ℕ) (top c : ℕ) → get_or (reverse (rest ++ top ∷ [])) 0 c ≡ top
last_first rest top c = ap (λ r. get_or r 0 c) (reverse-append rest (top ∷ []))

module _ (ts : List Lexeme) (n : ℕ) (t : Lexeme) (e : slice_get ts n ≡ Some t) (rest : List ℕ) (top : ℕ) where
  pub top_newline : is kind.Newline t.kind ≡ true → AreNewlinesAhead ts (rest ++ top ∷ []) (n + 1) → AreNewlinesAhead ts (rest ++ n ∷ []) n
  top_newline is = newline ts n t e (rest ++ top ∷ []) rest (rest ++ n ∷ []) is (λ d c. sym (last_after rest top d c)) refl

  -- a token that neither opens nor closes anything
  pub top_flat : (next : ℕ) → nesting t.kind ≡ Neither → next ≡ cond (is kind.Newline t.kind) n top → AreNewlinesAhead ts (rest ++ top ∷ []) (n + 1) → AreNewlinesAhead ts (rest ++ next ∷ []) n
  top_flat next neither chosen h = by (is kind.Newline t.kind) refl
    where
      by : (b : Bool) → is kind.Newline t.kind ≡ b → AreNewlinesAhead ts (rest ++ next ∷ []) n
      by true here = let same : next ≡ n = chosen ∙ ap (λ b. cond b n top) here in subst (λ k. AreNewlinesAhead ts (rest ++ k ∷ []) n) (sym same) (top_newline here h)
      by false here =
          let same : next ≡ top = chosen ∙ ap (λ b. cond b n top) here in
          subst (λ k. AreNewlinesAhead ts (rest ++ k ∷ []) n) (sym same) (passes ts n t e (rest ++ top ∷ []) (passed_is t.kind t.kind refl here neither) h)

  pub top_opens : (left : List ℕ) (next count : ℕ) → count ≡ length ts → nesting t.kind ≡ Opens → next ≡ get_or (reverse rest) 0 count → ((i : ℕ) → get_or (reverse left) i count ≡ get_or (reverse rest) (suc i) count)
      → AreNewlinesAhead ts (rest ++ top ∷ []) (n + 1) → AreNewlinesAhead ts (left ++ next ∷ []) n
  top_opens left next count is_count is taken kept = opens ts n t e (rest ++ top ∷ []) (left ++ next ∷ []) is by
    where
      at_count : (d : ℕ) → get_or (reverse (left ++ next ∷ [])) d count ≡ get_or (reverse (rest ++ top ∷ [])) (suc d) count
      at_count zero = last_first left next count ∙ taken ∙ sym (last_after rest top 0 count)
      at_count (suc d) = last_after left next d count ∙ kept d ∙ sym (last_after rest top (suc d) count)

      by : (d : ℕ) → get_or (reverse (left ++ next ∷ [])) d (length ts) ≡ get_or (reverse (rest ++ top ∷ [])) (suc d) (length ts)
      by d = let P : ℕ → Type 0 = λ c. get_or (reverse (left ++ next ∷ [])) d c ≡ get_or (reverse (rest ++ top ∷ [])) (suc d) c in subst P is_count (at_count d)

  pub top_closes : (more : List ℕ) → nesting t.kind ≡ Closes → more ≡ rest ++ top ∷ [] → AreNewlinesAhead ts (rest ++ top ∷ []) (n + 1) → AreNewlinesAhead ts (more ++ top ∷ []) n
  top_closes more is pushed = closes ts n t e (rest ++ top ∷ []) (more ++ top ∷ []) top is (sym (last_first rest top (length ts))) (ap (λ r. r ++ top ∷ []) pushed)

-- ---- the table

pub found : (ts : List Lexeme) (n : ℕ) → n < length ts → (t : Lexeme) × (slice_get ts n ≡ Some t)
found [] n h = absurd (omega (arith, h))
found (x ∷ ts) zero h = (x, refl)
found (x ∷ ts) (suc n) h = found ts n (omega (arith, h))

-- after a token, it is filled where a segment can begin
pub record IsFilled (ts : List Lexeme) (ends ahead : List ℕ) (n : ℕ) : Type 0 where
  pub len : length ends ≡ length ts + 1
  pub within : n ≤ length ts
  pub newlines_ahead : AreNewlinesAhead ts ahead n
  pub each : (i : ℕ) → n < i → i ≤ length ts → CanBegin ts i → get_or ends i 0 ≡ newline_from ts 0 i

pub starts_filled : (ts : List Lexeme) (count : ℕ) (ends : List ℕ) → count ≡ length ts → ends ≡ replicate (count + 1) 0 → IsFilled ts ends (count ∷ []) count
starts_filled ts count ends is made = record {
  len = ap length made ∙ length-replicate (count + 1) 0 ∙ ap (λ k. k + 1) is;
  within = omega (arith, is);
  newlines_ahead = λ d. none d ∙ sym (ap (λ k. newline_from ts d k) is ∙ ap (λ r. length ts + first_len d r) (drop_all (length ts) ts (omega arith)) ∙ omega arith);
  each = λ i h k _. absurd (omega (arith, h, k, is));
}
  where
    none : (d : ℕ) → get_or (reverse (count ∷ [])) d (length ts) ≡ length ts
    none zero = is
    none (suc d) = refl

-- after each token its number is put into the table
pub fills : (ts : List Lexeme) (old new before ahead : List ℕ) (last n x : ℕ) → last ≡ n + 1 → n < length ts → AreNewlinesAhead ts ahead n → x ≡ get_or (reverse before) 0 (length ts) → new ≡ set old (n + 1) x
    → IsFilled ts old before last → IsFilled ts new ahead n
fills ts old new before ahead last n x at less next top is h = record {
  len = ap length is ∙ length-set old (n + 1) x ∙ h.len;
  within = omega (arith, less);
  newlines_ahead = next;
  each = λ i from below begins. ap (λ r. get_or r i 0) is ∙ by i from below begins (cases_eq i (n + 1));
}
  where
    here : n + 1 < length old
    here = omega (arith, less, h.len)

    by : (i : ℕ) → n < i → i ≤ length ts → CanBegin ts i → (i ≡ n + 1) ⊎ (i ≢ n + 1) → get_or (set old (n + 1) x) i 0 ≡ newline_from ts 0 i
    by i from below begins (inl e) =
        ap (λ k. get_or (set old (n + 1) x) k 0) e ∙ get_or-set_same old (n + 1) x 0 here ∙ top ∙ h.newlines_ahead 0 ∙ ap (λ k. newline_from ts 0 k) (at ∙ sym e)
    by i from below begins (inr ne) = get_or-set_other old (n + 1) i x 0 ne ∙ h.each i (omega (arith, at, from, ne)) below begins

-- and finally for the first
pub filled : (ts : List Lexeme) (old ends ahead : List ℕ) (n x : ℕ) → n ≤ 0 → x ≡ get_or (reverse ahead) 0 (length ts) → ends ≡ set old 0 x → IsFilled ts old ahead n → AreEnds ts ends
filled ts old ends ahead n x none top is h = record {
  len = ap length is ∙ length-set old 0 x ∙ h.len;
  each = λ i below begins. ap (λ r. get_or r i 0) is ∙ by i below begins (cases_eq i 0);
}
  where
    start : n ≡ 0
    start = omega (arith, none)

    here : 0 < length old
    here = omega (arith, h.len)

    by : (i : ℕ) → i ≤ length ts → CanBegin ts i → (i ≡ 0) ⊎ (i ≢ 0) → get_or (set old 0 x) i 0 ≡ newline_from ts 0 i
    by i below begins (inl e) = ap (λ k. get_or (set old 0 x) k 0) e ∙ get_or-set_same old 0 x 0 here ∙ top ∙ h.newlines_ahead 0 ∙ ap (λ k. newline_from ts 0 k) (start ∙ sym e)
    by i below begins (inr ne) = get_or-set_other old 0 i x 0 ne ∙ h.each i (omega (arith, start, ne)) below begins

-- ---- where a segment can begin

stops_at : (depth : ℕ) (ts : List Lexeme) (t : Lexeme) → slice_get ts (first_len depth ts) ≡ Some t → is kind.Newline t.kind ≡ true
stops_at depth [] t e = absurd (cc)
stops_at depth (x ∷ ts) t e = by (is kind.Newline x.kind) (is_closed depth) refl refl e (stops_at (deepen depth x.kind) ts t)
  where
    F : ℕ
    F = first_len (deepen depth x.kind) ts

    next : F + 1 ≡ suc F
    next = omega arith

    by : (a b : Bool) → is kind.Newline x.kind ≡ a → is_closed depth ≡ b → slice_get (x ∷ ts) (cond (is kind.Newline x.kind && is_closed depth) 0 (F + 1)) ≡ Some t
        → (slice_get ts F ≡ Some t → is kind.Newline t.kind ≡ true) → is kind.Newline t.kind ≡ true
    by true true a b e rest =
        let same : Some x ≡ Some t = ap₂ (λ p q. slice_get (x ∷ ts) (cond (p && q) 0 (F + 1))) (sym a) (sym b) ∙ e in
        let it : x ≡ t = cc in
        ap (λ (y : Lexeme). is kind.Newline y.kind) (sym it) ∙ a
    by true false a b e rest = rest (ap (slice_get (x ∷ ts)) (sym next) ∙ ap₂ (λ p q. slice_get (x ∷ ts) (cond (p && q) 0 (F + 1))) (sym a) (sym b) ∙ e)
    by false b a _ e rest = rest (ap (slice_get (x ∷ ts)) (sym next) ∙ ap (λ p. slice_get (x ∷ ts) (cond (p && is_closed depth) 0 (F + 1))) (sym a) ∙ e)

slice_get-drop : (n i : ℕ) (ts : List Lexeme) → slice_get (drop n ts) i ≡ slice_get ts (n + i)
slice_get-drop zero i ts = let e : 0 + i ≡ i = omega arith in ap (slice_get ts) (sym e)
slice_get-drop (suc n) i [] = refl
slice_get-drop (suc n) i (x ∷ ts) = let e : suc n + i ≡ suc (n + i) = omega arith in slice_get-drop n i ts ∙ ap (slice_get (x ∷ ts)) (sym e)

newline_leads : (k : Kind) → is kind.Newline k ≡ true → leads k ≡ true
newline_leads kind.Newline e = refl
newline_leads _ e = absurd (true≢false (sym e))

brace_leads : (k : Kind) → is kind.BraceOpen k ≡ true → leads k ≡ true
brace_leads kind.BraceOpen e = refl
brace_leads _ e = absurd (true≢false (sym e))

pub first_begins : (ts : List Lexeme) → CanBegin ts 0
first_begins ts = λ n t e _. absurd (omega (arith, e))

-- after the end of a segment, before that of the current tokens
pub next_begins : (ts : List Lexeme) (start to end : ℕ) → end ≡ min (newline_from ts 0 start) to → end < to → CanBegin ts (end + 1)
next_begins ts start to end is less = λ n t e here.
    let same : n ≡ start + first_len 0 (drop start ts) = omega (arith, is, less, e) in
    newline_leads t.kind (stops_at 0 (drop start ts) t (slice_get-drop start (first_len 0 (drop start ts)) ts ∙ ap (slice_get ts) (sym same) ∙ here))

-- after an opening brace
pub brace_begins : (ts : List Lexeme) (number : ℕ) (t : Lexeme) → slice_get ts number ≡ Some t → is kind.BraceOpen t.kind ≡ true → CanBegin ts (number + 1)
brace_begins ts number t at brace = λ n other e here.
    let same : n ≡ number = omega (arith, e) in
    let both : Some t ≡ Some other = sym at ∙ ap (slice_get ts) (sym same) ∙ here in
    let it : t ≡ other = cc in
    ap (λ (y : Lexeme). leads y.kind) (sym it) ∙ brace_leads t.kind brace
