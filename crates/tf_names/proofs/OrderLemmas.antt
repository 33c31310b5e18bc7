-- The tokens of a scanned text follow one another in it.
use Rattle.std.proofs.Common.{◌≡◌, ◌∙◌, ap, refl, subst, sym, ℕ, suc, zero, ◌+◌, ◌≤◌, ◌<◌, Bool, true, false, cond, not, List, [], ◌∷◌, arith, drop, length, length-append, length-drop, take, ⊎_elim}
use Rattle.std.specs.Prelude.{filter}
use Rattle.std.specs.List.{prefix_len}
use Rattle.std.proofs.lemmas.List.Sums.{prefix_len-le-length}
use Rattle.hcl_grammar.specs.Numbered.{Numbered, is_passed_over, number_tokens, numbered_from, significant}
use Rattle.hcl_grammar.specs.Verdict.{start_of}
use Rattle.hcl_tokens.specs.Lexemes.{Lexeme, in_heredoc, marker_of}
use Rattle.hcl_tokens.specs.Scans.{Closes, Hidden, Leaves, Next, Reads, Run, Scans, State, ahead, begin, closer_len, gap_len, has_gaps_in}
use Rattle.hcl_tokens.specs.Spelling.{context, is_blank}
use Rattle.hcl_tokens.specs.declared.token.Kind.{Kind}
use Rattle.hcl_tokens.specs.declared.token.Kind.TheVariants as kind

-- the tokens follow one another, from an offset on up to another
abbrev pub Follow : ℕ → List Lexeme → ℕ → Type 0
Follow from [] to = from ≤ to
Follow from (t ∷ ts) to = (from ≤ t.start) × Follow (t.start + length t.text) ts to

-- ---- how much of the text is left

cut_length : (n : ℕ) (xs : List ℕ) → length (take n xs) + length (drop n xs) ≡ length xs
cut_length zero xs = omega arith
cut_length (suc n) [] = refl
cut_length (suc n) (x ∷ xs) = omega (arith, cut_length n xs)

abbrev hidden_length : List Hidden → ℕ
hidden_length [] = 0
hidden_length (h ∷ hidden) = length h.closer + length h.after + hidden_length hidden

abbrev left_length : State → ℕ
left_length s = length s.seen + hidden_length s.hidden

left_all : (rest : List ℕ) (hidden : List Hidden) (seen : List ℕ) (after : List Hidden) → seen ≡ rest → after ≡ hidden → length seen + hidden_length after ≡ length rest + hidden_length hidden
left_all rest hidden seen after s h = omega (arith, ap length s, ap hidden_length h)

left_after : (k : Kind) (text rest : List ℕ) (hidden : List Hidden) (seen : List ℕ) (after : List Hidden) → Leaves k text rest hidden seen after
    → length seen + hidden_length after ≡ length rest + hidden_length hidden
left_after kind.HeredocOpen text rest hidden seen after p =
    omega (arith, ap length p.2, ap hidden_length p.3, cut_length p.0 rest, cut_length (closer_len (marker_of text) (drop p.0 rest)) (drop p.0 rest))
left_after _ text rest hidden seen after p = left_all rest hidden seen after p.0 p.1

pub gap_within : (s : State) → gap_len s ≤ length s.seen
gap_within s = by (has_gaps_in (context s.opens) (in_heredoc s.opens))
  where
    by : (b : Bool) → cond b (prefix_len is_blank s.seen) 0 ≤ length s.seen
    by true = prefix_len-le-length is_blank s.seen
    by false = omega arith

-- a token begins where the state is or later, and the rest of the text fits after it
record Steps (s : State) (t : Lexeme) (next : State) : Type 0 where
  start : s.at ≤ t.start
  at : next.at ≡ t.start + length t.text
  fits : next.at + left_length next ≤ s.at + left_length s

reads_steps : (s : State) (t : Lexeme) (next : State) → Reads s t next → Steps s t next
reads_steps s t next p =
    let whole : length t.text + length p.rest ≡ length (ahead s) = sym (length-append t.text p.rest) ∙ ap length p.longest.whole in
    let left = left_after t.kind t.text p.rest s.hidden next.seen next.hidden p.leaves in
    record {
      start = omega (arith, p.start);
      at = p.at;
      fits = omega (arith, p.start, p.at, whole, left, gap_within s, length-drop (gap_len s) s.seen);
    }

closes_steps : (s : State) (t : Lexeme) (next : State) → Closes s t next → Steps s t next
closes_steps s t next p =
    let at : next.at ≡ s.at + length t.text = ap (λ (x : State). x.at) p.next_is in
    record {
      start = omega (arith, p.start);
      at = omega (arith, at, p.start);
      fits = omega (arith, at, ap left_length p.next_is, ap hidden_length p.line);
    }

steps : (s : State) (t : Lexeme) (next : State) → Next s t next → Steps s t next
steps s t next p = ⊎_elim (reads_steps s t next) (closes_steps s t next) p

run_follows : (ts : List Lexeme) (s end : State) (to : ℕ) → s.at + left_length s ≤ to → Run s ts end → Follow s.at ts to
run_follows [] s end to h p = omega (arith, h)
run_follows (t ∷ ts) s end to h p =
    let step = steps s t p.0 p.1 in
    (step.start, subst (λ (from : ℕ). Follow from ts to) step.at (run_follows ts p.0 end to (omega (arith, h, step.fits)) p.2))

pub tokens_follow : (text : List ℕ) (ts : List Lexeme) → Scans text ts → Follow 0 ts (length text)
tokens_follow text ts p = run_follows ts (begin text) p.0 (length text) (omega arith) p.1

-- ---- numbered tokens

-- the numbered tokens follow one another, where each begins at the offset for its number
abbrev pub InOrder : (ℕ → ℕ) → ℕ → List Numbered → ℕ → Type 0
InOrder starts from [] to = from ≤ to
InOrder starts from (t ∷ ts) to = (from ≤ starts t.number) × InOrder starts (starts t.number + length t.text) ts to

pub order_from : (starts : ℕ → ℕ) (from later to : ℕ) (ts : List Numbered) → from ≤ later → InOrder starts later ts to → InOrder starts from ts to
order_from starts from later to [] h o = omega (arith, h, o)
order_from starts from later to (t ∷ ts) h o = (omega (arith, h, o.0), o.1)

pub order_wide : (starts : ℕ → ℕ) (from to : ℕ) (ts : List Numbered) → InOrder starts from ts to → from ≤ to
order_wide starts from to [] o = o
order_wide starts from to (t ∷ ts) o = omega (arith, o.0, order_wide starts (starts t.number + length t.text) to ts o.1)

order_filter : (starts : ℕ → ℕ) (p : Numbered → Bool) (from to : ℕ) (ts : List Numbered) → InOrder starts from ts to → InOrder starts from (filter p ts) to
order_filter starts p from to [] o = o
order_filter starts p from to (t ∷ ts) o = by (p t) (order_filter starts p (starts t.number + length t.text) to ts o.1)
  where
    by : (b : Bool) → InOrder starts (starts t.number + length t.text) (filter p ts) to → InOrder starts from (cond b (t ∷ filter p ts) (filter p ts)) to
    by true r = (o.0, r)
    by false r = order_from starts from (starts t.number + length t.text) to (filter p ts) (omega (arith, o.0)) r

numbered_order : (starts : ℕ → ℕ) (n from to : ℕ) (ts : List Lexeme) → ((k : ℕ) → k < length ts → start_of ts k ≡ starts (n + k)) → Follow from ts to → InOrder starts from (numbered_from n ts) to
numbered_order starts n from to [] same f = f
numbered_order starts n from to (t ∷ ts) same f =
    let z : n + 0 ≡ n = omega arith in
    let here : t.start ≡ starts n = same 0 (omega arith) ∙ ap starts z in (
      omega (arith, f.0, here),
      subst (λ (k : ℕ). InOrder starts (k + length t.text) (numbered_from (n + 1) ts) to) here
          (numbered_order starts (n + 1) (t.start + length t.text) to ts (λ k less. let s : n + suc k ≡ n + 1 + k = omega arith in same (suc k) (omega (arith, less)) ∙ ap starts s) f.1),
    )

pub tokens_in_order : (text : List ℕ) (ts : List Lexeme) → Scans text ts → InOrder (start_of ts) 0 (number_tokens ts) (length text)
tokens_in_order text ts p =
    numbered_order (start_of ts) 0 0 (length text) ts (λ k less. let z : k ≡ 0 + k = omega arith in ap (start_of ts) z) (tokens_follow text ts p)

pub significant_in_order : (text : List ℕ) (ts : List Lexeme) → Scans text ts → InOrder (start_of ts) 0 (significant (number_tokens ts)) (length text)
significant_in_order text ts p = order_filter (start_of ts) (λ t. not (is_passed_over t.kind)) 0 (length text) (number_tokens ts) (tokens_in_order text ts p)
