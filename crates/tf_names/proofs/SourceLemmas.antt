-- The tokens of a scanned text are spelled in it where they begin, and a literal begins where the token before it ends.
use Rattle.std.proofs.Common.{◌≡◌, ◌∙◌, ap, refl, subst, sym, ℕ, ◌+◌, Bool, true, cond, true≢false, List, [], ◌∷◌, ◌++◌, append_assoc, arith, drop, length, take, take-append-drop, drop-drop, ⊎_elim}
use Rattle.std.specs.List.{list_all, prefix_len}
use Rattle.std.proofs.lemmas.List.{append-nil, drop-append-le, drop_at, take_at}
use Rattle.std.proofs.lemmas.Bool.{false≢true}
use Rattle.hcl_tokens.specs.Kinds.{is}
use Rattle.hcl_tokens.specs.Lexemes.{Lexeme, Opener, in_heredoc, marker_of}
use Rattle.hcl_tokens.specs.Scans.{Closes, Hidden, Leaves, Next, Reads, Run, Scans, State, begin, closer_len, gap_len, has_gaps_in}
use Rattle.hcl_tokens.specs.Spelling.{Context, Expression, IsPunctuation, IsTextIn, Template, context, is_blank, punctuation}
use Rattle.hcl_tokens.specs.declared.token.Kind.{Kind}
use Rattle.hcl_tokens.specs.declared.token.Kind.TheVariants as kind
use Rattle.hcl_tokens.proofs.BooleanLemmas.{and_true}
use Rattle.hcl_tokens.proofs.ExpressionKindLemmas.{in_expressions}
use Rattle.tf_names.proofs.OrderLemmas.{gap_within}

-- this part of a text begins at an offset
abbrev pub IsSpelled : List ℕ → ℕ → List ℕ → Type 0
IsSpelled text start part = take (length part) (drop start text) ≡ part

-- the tokens are spelled where they begin; the token before them ends at `from`
abbrev pub AreSpelled : List ℕ → ℕ → List Lexeme → Type 0
AreSpelled text from [] = Unit {0}
AreSpelled text from (t ∷ ts) = IsSpelled text t.start t.text × (is kind.Lit t.kind ≡ true → t.start ≡ from) × AreSpelled text (t.start + length t.text) ts

part_here : (text part rest : List ℕ) (at : ℕ) → drop at text ≡ part ++ rest → IsSpelled text at part
part_here text part rest at e = ap (take (length part)) e ∙ take_at part rest (length part) refl

part_after : (text part rest : List ℕ) (at : ℕ) → drop at text ≡ part ++ rest → drop (at + length part) text ≡ rest
part_after text part rest at e = sym (drop-drop (length part) at text) ∙ ap (drop (length part)) e ∙ drop_at part rest (length part) refl

-- ---- the rest of the text

abbrev hidden_text : List Hidden → List ℕ
hidden_text [] = []
hidden_text (h ∷ hidden) = h.closer ++ (h.after ++ hidden_text hidden)

abbrev left_text : State → List ℕ
left_text s = s.seen ++ hidden_text s.hidden

left_after : (k : Kind) (text rest : List ℕ) (hidden : List Hidden) (seen : List ℕ) (after : List Hidden) → Leaves k text rest hidden seen after
    → seen ++ hidden_text after ≡ rest ++ hidden_text hidden
left_after kind.HeredocOpen text rest hidden seen after p =
    let line = drop p.0 rest in
    let n = closer_len (marker_of text) line in
    (λ i. p.2 i ++ hidden_text (p.3 i))
    ∙ ap (λ l. take p.0 rest ++ l) (sym (append_assoc (take n line) (drop n line) (hidden_text hidden)) ∙ ap (λ l. l ++ hidden_text hidden) (take-append-drop n line))
    ∙ sym (append_assoc (take p.0 rest) line (hidden_text hidden))
    ∙ ap (λ l. l ++ hidden_text hidden) (take-append-drop p.0 rest)
left_after _ text rest hidden seen after p = (λ i. p.0 i ++ hidden_text (p.1 i))

-- ---- no gap precedes a literal

mark_in : (ms : List (List ℕ × Kind)) (text : List ℕ) (k : Kind) → list_all (λ m. in_expressions m.1) ms ≡ true → IsPunctuation ms text k → in_expressions k ≡ true
mark_in [] text k h is = absurd is
mark_in (m ∷ ms) text k h is =
    let both = and_true (in_expressions m.1) (list_all (λ o. in_expressions o.1) ms) h in
    ⊎_elim (λ e. ap in_expressions (sym e.1) ∙ both.0) (λ more. mark_in ms text k both.1 more) is

no_literal : (text : List ℕ) → IsPunctuation punctuation text kind.Lit → ⊥
unfolding punctuation
no_literal text is = absurd (true≢false (sym (mark_in punctuation text kind.Lit refl is)))

no_gap_in : (c : Context) (opens : List Opener) (dot inside : Bool) (seen : List ℕ) (k : Kind) (text rest : List ℕ) → is kind.Lit k ≡ true → IsTextIn c opens dot k text rest
    → cond (has_gaps_in c inside) (prefix_len is_blank seen) 0 ≡ 0
no_gap_in (Template quoted) opens dot inside seen k text rest l h = refl
no_gap_in Expression opens dot inside seen kind.Lit text rest l h = absurd (no_literal text h)
no_gap_in Expression opens dot inside seen _ text rest l h = absurd (false≢true l)

-- ---- token by token

record Spells (text : List ℕ) (s : State) (t : Lexeme) (next : State) : Type 0 where
  here : IsSpelled text t.start t.text
  near : is kind.Lit t.kind ≡ true → t.start ≡ s.at
  at : next.at ≡ t.start + length t.text
  left : drop next.at text ≡ left_text next

module _ (text : List ℕ) (s : State) (t : Lexeme) (next : State) (left : drop s.at text ≡ left_text s) where
  reads_spells : Reads s t next → Spells text s t next
  reads_spells p =
      let hidden = hidden_text s.hidden in
      let start : drop t.start text ≡ t.text ++ (p.rest ++ hidden) =
      ap (λ n. drop n text) p.start
      ∙ sym (drop-drop (gap_len s) s.at text)
      ∙ ap (drop (gap_len s)) left
      ∙ drop-append-le (gap_len s) s.seen hidden (gap_within s)
      ∙ ap (λ l. l ++ hidden) (sym p.longest.whole)
      ∙ append_assoc t.text p.rest hidden in
      record {
        here = part_here text t.text (p.rest ++ hidden) t.start start;
        near = λ l. omega (arith, p.start, no_gap_in (context s.opens) s.opens s.after_dot (in_heredoc s.opens) s.seen t.kind t.text p.rest l p.longest.spelled);
        at = p.at;
        left = ap (λ n. drop n text) p.at ∙ part_after text t.text (p.rest ++ hidden) t.start start ∙ sym (left_after t.kind t.text p.rest s.hidden next.seen next.hidden p.leaves);
      }

  closes_spells : Closes s t next → Spells text s t next
  closes_spells p =
      let rest = p.rest ++ hidden_text p.above in
      let whole : left_text s ≡ t.text ++ rest = (λ i. p.read i ++ hidden_text (p.line i)) in
      let start : drop t.start text ≡ t.text ++ rest = ap (λ n. drop n text) p.start ∙ left ∙ whole in
      let at : next.at ≡ s.at + length t.text = ap (λ (x : State). x.at) p.next_is in
      let ends : next.at ≡ t.start + length t.text = omega (arith, at, p.start) in
      record {
        here = part_here text t.text rest t.start start;
        near = λ l. p.start;
        at = ends;
        left = ap (λ n. drop n text) ends ∙ part_after text t.text rest t.start start ∙ sym (ap left_text p.next_is);
      }

  spells : Next s t next → Spells text s t next
  spells p = ⊎_elim reads_spells closes_spells p

run_spelled : (text : List ℕ) (ts : List Lexeme) (s end : State) → drop s.at text ≡ left_text s → Run s ts end → AreSpelled text s.at ts
run_spelled text [] s end left p = tt
run_spelled text (t ∷ ts) s end left p =
    let step = spells text s t p.0 left p.1 in
    (step.here, step.near, subst (λ (from : ℕ). AreSpelled text from ts) step.at (run_spelled text ts p.0 end step.left p.2))

pub tokens_spelled : (text : List ℕ) (ts : List Lexeme) → Scans text ts → AreSpelled text 0 ts
tokens_spelled text ts p = run_spelled text ts (begin text) p.0 (sym (append-nil text)) p.1
