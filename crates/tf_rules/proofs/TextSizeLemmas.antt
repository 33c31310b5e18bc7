-- The tokens of a text have at most as many bytes as the text, and none of those that the count of names uses is empty.
use Rattle.std.proofs.Common.{◌≡◌, ℕ, ◌+◌, ◌≤◌, ◌<◌, Bool, true, false, List, [], ◌∷◌, length, take, drop, inl, inr, arith, sym, ap, ◌∙◌, length-append}
use Rattle.std.specs.Prelude.{◌||◌}
use Rattle.std.proofs.lemmas.List.{take-append-drop}
use Rattle.hcl_tokens.specs.Lexemes.{Lexeme}
use Rattle.hcl_tokens.specs.Kinds.{is}
use Rattle.hcl_tokens.specs.Scans.{State, Hidden, Leaves, Next, Run, Scans, begin, closer_len, gap_len}
use Rattle.hcl_tokens.specs.Lexemes.{marker_of}
use Rattle.hcl_tokens.specs.declared.token.Kind.{Kind}
use Rattle.hcl_tokens.specs.declared.token.Kind.TheVariants.{HeredocOpen, Assign, Dot}
use Rattle.hcl_tokens.proofs.OneReadingLemmas.{Nonempty}
use Rattle.hcl_tokens.proofs.NonemptyLemmas.{nonempty}
use Rattle.tf_rules.proofs.ItemWeightLemmas.{bit}

abbrev pub text_bytes : List Lexeme → ℕ
text_bytes [] = 0
text_bytes (t ∷ ts) = length t.text + text_bytes ts

abbrev hidden_bytes : List Hidden → ℕ
hidden_bytes [] = 0
hidden_bytes (h ∷ hs) = length h.closer + (length h.after + hidden_bytes hs)

-- how many bytes are still to be read
abbrev left : State → ℕ
left s = length s.seen + hidden_bytes s.hidden

cut_bytes : (n : ℕ) (xs : List ℕ) → length (take n xs) + length (drop n xs) ≡ length xs
cut_bytes n xs = sym (length-append (take n xs) (drop n xs)) ∙ ap length (take-append-drop n xs)

leaves_all : (rest : List ℕ) (hidden : List Hidden) (seen' : List ℕ) (hidden' : List Hidden) → seen' ≡ rest → hidden' ≡ hidden → length seen' + hidden_bytes hidden' ≤ length rest + hidden_bytes hidden
leaves_all rest hidden seen' hidden' s h = omega (arith, ap length s, ap hidden_bytes h)

leaves_few : (kind : Kind) (text rest : List ℕ) (hidden : List Hidden) (seen' : List ℕ) (hidden' : List Hidden) → Leaves kind text rest hidden seen' hidden' → length seen' + hidden_bytes hidden' ≤ length rest + hidden_bytes hidden
leaves_few HeredocOpen text rest hidden seen' hidden' l =
    omega (arith, ap length l.2, ap hidden_bytes l.3, cut_bytes l.0 rest, cut_bytes (closer_len (marker_of text) (drop l.0 rest)) (drop l.0 rest))
leaves_few _ text rest hidden seen' hidden' l = leaves_all rest hidden seen' hidden' l.0 l.1

step_few : (s : State) (t : Lexeme) (next : State) → Next s t next → length t.text + left next ≤ left s
step_few s t next (inl r) =
    omega (
      arith,
      length-append t.text r.rest,
      ap length r.longest.whole,
      cut_bytes (gap_len s) s.seen,
      leaves_few t.kind t.text r.rest s.hidden next.seen next.hidden r.leaves,
    )
step_few s t next (inr c) = let e : left next ≡ length c.rest + hidden_bytes c.above = ap left c.next_is in omega (arith, e, ap length c.read, ap hidden_bytes c.line)

run_few : (s : State) (ts : List Lexeme) (end : State) → Run s ts end → text_bytes ts + left end ≤ left s
run_few s [] end r = omega (arith, ap left r)
run_few s (t ∷ ts) end r = omega (arith, step_few s t r.0 r.1, run_few r.0 ts end r.2)

pub tokens_few : (text : List ℕ) (ts : List Lexeme) → Scans text ts → text_bytes ts ≤ length text
tokens_few text ts s = omega (arith, run_few (begin text) ts s.0 s.1)

-- ---- dots and `=`

abbrev pub Solid : List Lexeme → Type 0
Solid [] = Unit {0}
Solid (t ∷ ts) = (bit (is Dot t.kind || is Assign t.kind) ≤ length t.text) × Solid ts

one_at_most : (b : Bool) → bit b ≤ 1
one_at_most true = omega arith
one_at_most false = omega arith

step_solid : (s : State) (t : Lexeme) (next : State) → Next s t next → bit (is Dot t.kind || is Assign t.kind) ≤ length t.text
unfolding Nonempty
step_solid s t next (inl r) = let some : 0 < length t.text = nonempty s.opens s.after_dot t.kind t.text r.rest r.longest.spelled in omega (arith, one_at_most (is Dot t.kind || is Assign t.kind), some)
step_solid s t next (inr c) = let none : bit (is Dot t.kind || is Assign t.kind) ≡ 0 = ap (λ k. bit (is Dot k || is Assign k)) c.kind in omega (arith, none)

run_solid : (s : State) (ts : List Lexeme) (end : State) → Run s ts end → Solid ts
run_solid s [] end r = tt
run_solid s (t ∷ ts) end r = (step_solid s t r.0 r.1, run_solid r.0 ts end r.2)

pub tokens_solid : (text : List ℕ) (ts : List Lexeme) → Scans text ts → Solid ts
tokens_solid text ts s = run_solid (begin text) ts s.0 s.1
