-- A text has one reading at most, one fault at most, and not both; at most `max_open` openers are open throughout.
use Rattle.std.proofs.Common.{◌≡◌, ℕ, ◌+◌, ◌<◌, ◌≤◌, Bool, false, List, [], ◌∷◌, ◌++◌, length, take, drop, inl, inr, ⊎_elim, refl, sym, ap, subst, ◌∙◌, arith, length-append, length-drop, Some}
use Rattle.std.proofs.lemmas.Bool.{cases_order}
use Rattle.std.proofs.Math.Seq.{take-append_seam, drop-append_seam}
use Rattle.hcl_tokens.specs.Lexemes.{Lexeme, Opener, marker_of, open_after, open_after_all, max_open}
use Rattle.hcl_tokens.specs.Spelling.{IsSpelling}
use Rattle.hcl_tokens.specs.Kinds.{is}
use Rattle.hcl_tokens.specs.Scans.{State, Hidden, hides, gap_len, offsets_of, unclosed_opener, begin, ahead, IsLongest, IsFirstMarkerLine, Leaves, Reads, Closes, Next, Run, Scans, IsComplete}
use Rattle.hcl_tokens.specs.Faults.{Lacks, at_end, no_token, too_deep, no_marker_line, end_fault, fault_offset, IsScanFault}
use Rattle.hcl_source.specs.declared.fault.FaultKind.{FaultKind}
use Rattle.hcl_tokens.specs.declared.token.Kind.{Kind}
use Rattle.hcl_tokens.specs.declared.token.Kind.TheVariants.{HeredocOpen, Dot}

-- two laws of the spellings: one kind for each text, and no empty text
unfoldable pub OneKind : Type 0
OneKind = (opens : List Opener) (dot : Bool) (kind other : Kind) (text rest : List ℕ) → IsSpelling opens dot kind text rest → IsSpelling opens dot other text rest → kind ≡ other

unfoldable pub Nonempty : Type 0
Nonempty = (opens : List Opener) (dot : Bool) (kind : Kind) (text rest : List ℕ) → IsSpelling opens dot kind text rest → 0 < length text

same_front : (t r u s : List ℕ) → t ++ r ≡ u ++ s → length t ≡ length u → (t ≡ u) × (r ≡ s)
same_front t r u s e len = (
  sym (take-append_seam t r) ∙ ap (take (length t)) e ∙ ap (λ n. take n (u ++ s)) len ∙ take-append_seam u s,
  sym (drop-append_seam t r) ∙ ap (drop (length t)) e ∙ ap (λ n. drop n (u ++ s)) len ∙ drop-append_seam u s,
)

pub record SameLongest (kind other : Kind) (text text' rest rest' : List ℕ) : Type 0 where
  pub kind_is : kind ≡ other
  pub text_is : text ≡ text'
  pub rest_is : rest ≡ rest'

pub one_longest : OneKind → (opens : List Opener) (dot : Bool) (seen : List ℕ) (kind other : Kind) (text text' rest rest' : List ℕ) → IsLongest opens dot seen kind text rest → IsLongest opens dot seen other text' rest' → SameLongest kind other text text' rest rest'
unfolding OneKind
one_longest one opens dot seen kind other text text' rest rest' a b =
    ⊎_elim
    (λ len. let same = same_front text rest text' rest' (a.whole ∙ sym b.whole) len in
    record {
      kind_is = one opens dot kind other text rest a.spelled (subst (λ t. IsSpelling opens dot other t rest) (sym same.0) (subst (λ r. IsSpelling opens dot other text' r) (sym same.1) b.spelled));
      text_is = same.0;
      rest_is = same.1;
    })
    (λ less. absurd (⊎_elim (λ lt. a.longest other text' rest' b.whole lt b.spelled) (λ gt. b.longest kind text rest a.whole gt a.spelled) less))
    (cases_order (length text) (length text'))

first_is_one : (marker text : List ℕ) (n m : ℕ) → IsFirstMarkerLine marker text n → IsFirstMarkerLine marker text m → n ≡ m
first_is_one marker text n m a b = ⊎_elim (λ e. e) (λ less. absurd (⊎_elim (λ lt. b.first n lt a.here) (λ gt. a.first m gt b.here) less)) (cases_order n m)

one_shown : (kind : Kind) (text rest : List ℕ) (hidden : List Hidden) (seen seen' : List ℕ) (hidden' hidden'' : List Hidden) → Leaves kind text rest hidden seen hidden' → Leaves kind text rest hidden seen' hidden'' → (seen ≡ seen') × (hidden' ≡ hidden'')
one_shown HeredocOpen text rest hidden seen seen' hidden' hidden'' a b =
    let e = first_is_one (marker_of text) rest a.0 b.0 a.1 b.1 in
    (a.2 ∙ ap (λ n. take n rest) e ∙ sym b.2, a.3 ∙ ap (λ n. hides (marker_of text) (drop n rest) ∷ hidden) e ∙ sym b.3)
one_shown _ text rest hidden seen seen' hidden' hidden'' a b = (a.0 ∙ sym b.0, a.1 ∙ sym b.1)

abbrev SameStep : Lexeme → Lexeme → State → State → Type 0
SameStep t u a b = (t ≡ u) × (a ≡ b)

one_reads : OneKind → (s : State) (t u : Lexeme) (a b : State) → Reads s t a → Reads s u b → SameStep t u a b
one_reads one s t u a b x y =
    let same = one_longest one s.opens s.after_dot (ahead s) t.kind u.kind t.text u.text x.rest y.rest x.longest y.longest in
    let starts_at : t.start ≡ u.start = x.start ∙ sym y.start in
    let inside : t.inside_heredoc ≡ u.inside_heredoc = x.inside ∙ sym y.inside in
    let token : t ≡ u = λ i. record { kind = same.kind_is i; text = same.text_is i; start = starts_at i; inside_heredoc = inside i } in
    let at : a.at ≡ b.at = x.at ∙ ap (λ (z : Lexeme). z.start + length z.text) token ∙ sym y.at in
    let opens : a.opens ≡ b.opens = x.opens ∙ ap (λ (z : Lexeme). open_after z.kind s.opens) token ∙ sym y.opens in
    let offsets : a.offsets ≡ b.offsets = x.offsets ∙ (λ i. offsets_of (starts_at i) s.opens (opens i) s.offsets) ∙ sym y.offsets in
    let dot : a.after_dot ≡ b.after_dot = x.after_dot ∙ ap (λ (z : Lexeme). is Dot z.kind) token ∙ sym y.after_dot in
    let there : Leaves u.kind u.text y.rest s.hidden a.seen a.hidden = subst (λ (p : Kind × List ℕ × List ℕ). Leaves p.0 p.1 p.2 s.hidden a.seen a.hidden) (λ i. (same.kind_is i, same.text_is i, same.rest_is i)) x.leaves in
    let shown = one_shown u.kind u.text y.rest s.hidden a.seen b.seen a.hidden b.hidden there y.leaves in
    (token, λ i. record { at = at i; opens = opens i; offsets = offsets i; after_dot = dot i; seen = shown.0 i; hidden = shown.1 i })

abbrev closer_in : List Hidden → List ℕ
closer_in [] = []
closer_in (h ∷ hs) = h.closer

abbrev after_in : List Hidden → List ℕ
after_in [] = []
after_in (h ∷ hs) = h.after

one_closes : (s : State) (t u : Lexeme) (a b : State) → Closes s t a → Closes s u b → SameStep t u a b
one_closes s t u a b x y =
    let lines : record { closer = t.text; after = x.rest } ∷ x.above ≡ record { closer = u.text; after = y.rest } ∷ y.above = sym x.line ∙ y.line in
    let text : t.text ≡ u.text = ap (λ (l : List Hidden). closer_in l) lines in
    let rest : x.rest ≡ y.rest = ap (λ (l : List Hidden). after_in l) lines in
    let above : x.above ≡ y.above = ap (λ l. drop 1 l) lines in
    let below : x.below ≡ y.below = ap (λ l. drop 1 l) (sym x.top ∙ y.top) in
    let kind : t.kind ≡ u.kind = x.kind ∙ sym y.kind in
    let starts_at : t.start ≡ u.start = x.start ∙ sym y.start in
    let inside : t.inside_heredoc ≡ u.inside_heredoc = x.inside ∙ sym y.inside in
    let at : s.at + length t.text ≡ s.at + length u.text = ap (λ l. s.at + length l) text in (
      λ i. record { kind = kind i; text = text i; start = starts_at i; inside_heredoc = inside i },
      x.next_is ∙ (λ i. record { at = at i; opens = below i; offsets = drop 1 s.offsets; after_dot = false; seen = rest i; hidden = above i }) ∙ sym y.next_is,
    )

-- the longest spelling isn't empty, so neither is the visible text after the gap
pub some_ahead : Nonempty → (s : State) (k : Kind) (text rest : List ℕ) → IsLongest s.opens s.after_dot (ahead s) k text rest → 0 < length (ahead s)
unfolding Nonempty
some_ahead nonempty s k text rest x = let some = nonempty s.opens s.after_dot k text rest x.spelled in omega (arith, some, ap length x.whole, length-append text rest)

pub nothing_ahead : Nonempty → (s : State) (t : Lexeme) (a : State) → length (ahead s) ≡ 0 → Reads s t a → ⊥
nothing_ahead nonempty s t a empty x = omega (arith, some_ahead nonempty s t.kind t.text x.rest x.longest, empty)

not_both : Nonempty → (s : State) (t u : Lexeme) (a b : State) → Reads s t a → Closes s u b → ⊥
not_both nonempty s t u a b x y = nothing_ahead nonempty s t a (omega (arith, length-drop (gap_len s) s.seen, ap length y.read)) x

one_next : OneKind → Nonempty → (s : State) (t u : Lexeme) (a b : State) → Next s t a → Next s u b → SameStep t u a b
one_next one nonempty s t u a b (inl x) (inl y) = one_reads one s t u a b x y
one_next one nonempty s t u a b (inl x) (inr y) = absurd (not_both nonempty s t u a b x y)
one_next one nonempty s t u a b (inr x) (inl y) = absurd (not_both nonempty s u t b a y x)
one_next one nonempty s t u a b (inr x) (inr y) = one_closes s t u a b x y

pub complete_ends : Nonempty → (s : State) (t : Lexeme) (a : State) → IsComplete s → Next s t a → ⊥
complete_ends nonempty s t a done (inl x) = nothing_ahead nonempty s t a (ap length done.0) x
complete_ends nonempty s t a done (inr y) = let e = ap unclosed_opener y.top in let d = done.1 in absurd (cc)

abbrev pub Stuck : State → Type 0
Stuck s = (t : Lexeme) (next : State) → ¬ Next s t next

module _ (one : OneKind) (nonempty : Nonempty) where
  -- from one state, two readings that can't be continued are the same
  pub one_run : (s : State) (ts us : List Lexeme) (a b : State) → Run s ts a → Stuck a → Run s us b → Stuck b → (ts ≡ us) × (a ≡ b)
  one_run s [] [] a b x stuck y stuck' = (refl, sym x ∙ y)
  one_run s [] (u ∷ us) a b x stuck y stuck' = absurd (stuck u y.0 (subst (λ (z : State). Next z u y.0) x y.1))
  one_run s (t ∷ ts) [] a b x stuck y stuck' = absurd (stuck' t x.0 (subst (λ (z : State). Next z t x.0) y x.1))
  one_run s (t ∷ ts) (u ∷ us) a b x stuck y stuck' =
      let same = one_next one nonempty s t u x.0 y.0 x.1 y.1 in
      let rest = one_run y.0 ts us a b (subst (λ (z : State). Run z ts a) same.1 x.2) stuck y.2 stuck' in
      (λ i. same.0 i ∷ rest.0 i, rest.1)

  pub one_scan : (text : List ℕ) (ts us : List Lexeme) → Scans text ts → Scans text us → ts ≡ us
  one_scan text ts us x y = (one_run (begin text) ts us x.0 y.0 x.1 (λ t next. complete_ends nonempty x.0 t next x.2) y.1 (λ t next. complete_ends nonempty y.0 t next y.2)).0

  -- a state lacks one thing at most
  one_lack : (s : State) (kind other : FaultKind) → Lacks s kind → Lacks s other → kind ≡ other
  one_lack s kind other (at_end e is) (at_end e' is') = some_is (sym is ∙ is')
    where
      some_is : Some kind ≡ Some other → kind ≡ other
      some_is h = cc
  one_lack s kind other (at_end e is) (no_token some none is') = absurd (omega (arith, ap length e, some))
  one_lack s kind other (at_end e is) (too_deep k text rest x deep is') = absurd (omega (arith, ap length e, some_ahead nonempty s k text rest x))
  one_lack s kind other (at_end e is) (no_marker_line text rest x room none is') = absurd (omega (arith, ap length e, some_ahead nonempty s HeredocOpen text rest x))
  one_lack s kind other (no_token some none is) (at_end e is') = absurd (omega (arith, ap length e, some))
  one_lack s kind other (no_token some none is) (no_token some' none' is') = is ∙ sym is'
  one_lack s kind other (no_token some none is) (too_deep k text rest x deep is') = absurd (none k text rest x.whole x.spelled)
  one_lack s kind other (no_token some none is) (no_marker_line text rest x room none' is') = absurd (none HeredocOpen text rest x.whole x.spelled)
  one_lack s kind other (too_deep k text rest x deep is) (at_end e is') = absurd (omega (arith, ap length e, some_ahead nonempty s k text rest x))
  one_lack s kind other (too_deep k text rest x deep is) (no_token some none is') = absurd (none k text rest x.whole x.spelled)
  one_lack s kind other (too_deep k text rest x deep is) (too_deep k' text' rest' x' deep' is') = is ∙ sym is'
  one_lack s kind other (too_deep k text rest x deep is) (no_marker_line text' rest' x' room none is') =
      let same = one_longest one s.opens s.after_dot (ahead s) k HeredocOpen text text' rest rest' x x' in
      let len = ap (λ (z : Kind). length (open_after z s.opens)) same.kind_is in
      absurd (omega (arith, deep, room, len))
  one_lack s kind other (no_marker_line text rest x room none is) (at_end e is') = absurd (omega (arith, ap length e, some_ahead nonempty s HeredocOpen text rest x))
  one_lack s kind other (no_marker_line text rest x room none is) (no_token some none' is') = absurd (none' HeredocOpen text rest x.whole x.spelled)
  one_lack s kind other (no_marker_line text rest x room none is) (too_deep k text' rest' x' deep is') =
      let same = one_longest one s.opens s.after_dot (ahead s) k HeredocOpen text' text rest' rest x' x in
      let len = ap (λ (z : Kind). length (open_after z s.opens)) same.kind_is in
      absurd (omega (arith, deep, room, len))
  one_lack s kind other (no_marker_line text rest x room none is) (no_marker_line text' rest' x' room' none' is') = is ∙ sym is'

  -- a state that lacks something isn't complete
  lack_not_done : (s : State) (kind : FaultKind) → Lacks s kind → IsComplete s → ⊥
  lack_not_done s kind (at_end e is) done = let f = ap end_fault done.1 in absurd (cc)
  lack_not_done s kind (no_token some none is) done = omega (arith, some, ap length done.0)
  lack_not_done s kind (too_deep k text rest x deep is) done = omega (arith, some_ahead nonempty s k text rest x, ap length done.0)
  lack_not_done s kind (no_marker_line text rest x room none is) done = omega (arith, some_ahead nonempty s HeredocOpen text rest x, ap length done.0)

  -- A TEXT HAS ONE FAULT AT MOST
  pub one_fault : (text : List ℕ) (kind other : FaultKind) (at at' : ℕ) → IsScanFault text kind at → IsScanFault text other at' → (kind ≡ other) × (at ≡ at')
  one_fault text kind other at at' x y =
      let same = one_run (begin text) x.tokens y.tokens x.end y.end x.read x.longest y.read y.longest in
      let kind_is = one_lack y.end kind other (subst (λ (z : State). Lacks z kind) same.1 x.lacks) y.lacks in
      (kind_is, x.at_is ∙ (λ i. fault_offset (same.1 i) (kind_is i)) ∙ sym y.at_is)

  -- a text with tokens has no fault
  pub no_fault : (text : List ℕ) (ts : List Lexeme) (kind : FaultKind) (at : ℕ) → Scans text ts → IsScanFault text kind at → ⊥
  no_fault text ts kind at x y =
      let same = one_run (begin text) ts y.tokens x.0 y.end x.1 (λ t next. complete_ends nonempty x.0 t next x.2) y.read y.longest in
      lack_not_done y.end kind y.lacks (subst IsComplete same.1 x.2)

opens_next : (s : State) (t : Lexeme) (next : State) → Next s t next → next.opens ≡ open_after t.kind s.opens
opens_next s t next (inl x) = x.opens
opens_next s t next (inr y) = ap (λ (z : State). z.opens) y.next_is ∙ ap (λ l. drop 1 l) (sym y.top) ∙ ap (λ k. open_after k s.opens) (sym y.kind)

-- the tokens of a list determine the open openers after it
pub opens_after : (s : State) (ts : List Lexeme) (end : State) → Run s ts end → end.opens ≡ open_after_all s.opens ts
opens_after s [] end run = ap (λ (z : State). z.opens) (sym run)
opens_after s (t ∷ ts) end run = opens_after run.0 ts end run.2 ∙ ap (λ o. open_after_all o ts) (opens_next s t run.0 run.1)

room_next : (s : State) (t : Lexeme) (next : State) → length s.opens ≤ max_open → Next s t next → length next.opens ≤ max_open
room_next s t next room (inl x) = x.room
room_next s t next room (inr y) = omega (arith, room, ap length y.top, ap (λ (z : State). length z.opens) y.next_is)

-- at each prefix at most `max_open` openers are open
pub bounded : (s : State) (us vs : List Lexeme) (end : State) → length s.opens ≤ max_open → Run s (us ++ vs) end → length (open_after_all s.opens us) ≤ max_open
bounded s [] vs end room run = room
bounded s (u ∷ us) vs end room run =
    subst (λ o. length (open_after_all o us) ≤ max_open) (opens_next s u run.0 run.1) (bounded run.0 us vs end (room_next s u run.0 room run.1) run.2)

pub scan_bounded : (text : List ℕ) (us vs : List Lexeme) → Scans text (us ++ vs) → length (open_after_all [] us) ≤ max_open
scan_bounded text us vs scans = bounded (begin text) us vs scans.0 (omega arith) scans.1
