-- One kind for each text, for all places, from the laws of expressions and of templates; and a reading that lacks
-- something can't continue.
use Rattle.std.proofs.Common.{◌≡◌, ℕ, ◌<◌, Bool, List, [], ◌∷◌, ◌++◌, length, get_or, None, ◌⊎◌, inl, inr, ⊎_elim, refl, sym, ap, subst, ◌∙◌, arith, length-drop}
use Rattle.hcl_tokens.specs.Lexemes.{Lexeme, Opener, marker_of, open_after, max_open}
use Rattle.hcl_tokens.specs.Spelling.{IsExpressionText, IsTextIn, Context, Template, Expression, context, element_len, IsLiteral}
use Rattle.hcl_tokens.specs.Scans.{State, gap_len, unclosed_opener, ahead, IsLongest, IsMarkerLine, Leaves, Reads, Next, Run}
use Rattle.hcl_tokens.specs.Faults.{Lacks, at_end, no_token, too_deep, no_marker_line, end_fault}
use Rattle.hcl_source.specs.declared.fault.FaultKind.{FaultKind}
use Rattle.hcl_tokens.specs.declared.token.Kind.{Kind}
use Rattle.hcl_tokens.specs.declared.token.Kind.TheVariants.{HeredocOpen, Lit}
use Rattle.hcl_tokens.proofs.OneReadingLemmas.{OneKind, Nonempty, Stuck, one_longest, some_ahead, nothing_ahead}
use Rattle.hcl_scan.proofs.TemplateLemmas.{Way, ways, lit, interp, control, quote, no_lit, no_element}

-- the law of expressions
unfoldable pub OneExpression : Type 0
OneExpression = (opens : List Opener) (dot : Bool) (kind other : Kind) (text rest : List ℕ) → IsExpressionText opens dot kind text rest → IsExpressionText opens dot other text rest → kind ≡ other

-- the law of templates
no_both : (quoted : Bool) (kind : Kind) (text rest : List ℕ) → IsLiteral quoted text rest → element_len quoted (text ++ rest) ≡ None → ⊥
no_both quoted kind text rest h none = no_lit quoted (text ++ rest) text rest none refl h

second_head : (text : List ℕ) (b : ℕ) → (text ≡ b ∷ 123 ∷ []) ⊎ (text ≡ b ∷ 123 ∷ 126 ∷ []) → get_or text 0 0 ≡ b
second_head text b h = ⊎_elim (λ e. ap (λ l. get_or l 0 0) e) (λ e. ap (λ l. get_or l 0 0) e) h

no_lit_beside : (quoted : Bool) (other : Kind) (text rest : List ℕ) → IsLiteral quoted text rest → Way quoted other text rest → other ≡ Lit
no_lit_beside quoted other text rest h w = ⊎_elim (λ k. k) (λ none. absurd (no_both quoted other text rest h none)) (no_element quoted other (text ++ rest) text rest refl w)

pub one_template : (quoted : Bool) (kind other : Kind) (text rest : List ℕ) → Way quoted kind text rest → Way quoted other text rest → kind ≡ other
one_template quoted kind other text rest (lit k h) w = k ∙ sym (no_lit_beside quoted other text rest h w)
one_template quoted kind other text rest v (lit k h) = no_lit_beside quoted kind text rest h v ∙ sym k
one_template quoted kind other text rest (interp k h) (interp l m) = k ∙ sym l
one_template quoted kind other text rest (interp k h) (control l m) = let e : 36 ≡ 37 = sym (second_head text 36 h) ∙ second_head text 37 m in absurd (omega (arith, e))
one_template quoted kind other text rest (interp k h) (quote l q m) = let e : 36 ≡ 34 = sym (second_head text 36 h) ∙ ap (λ l. get_or l 0 0) m in absurd (omega (arith, e))
one_template quoted kind other text rest (control k h) (interp l m) = let e : 37 ≡ 36 = sym (second_head text 37 h) ∙ second_head text 36 m in absurd (omega (arith, e))
one_template quoted kind other text rest (control k h) (control l m) = k ∙ sym l
one_template quoted kind other text rest (control k h) (quote l q m) = let e : 37 ≡ 34 = sym (second_head text 37 h) ∙ ap (λ l. get_or l 0 0) m in absurd (omega (arith, e))
one_template quoted kind other text rest (quote k q h) (interp l m) = let e : 34 ≡ 36 = sym (ap (λ l. get_or l 0 0) h) ∙ second_head text 36 m in absurd (omega (arith, e))
one_template quoted kind other text rest (quote k q h) (control l m) = let e : 34 ≡ 37 = sym (ap (λ l. get_or l 0 0) h) ∙ second_head text 37 m in absurd (omega (arith, e))
one_template quoted kind other text rest (quote k q h) (quote l r m) = k ∙ sym l

-- the law of all places
one_in : OneExpression → (c : Context) (opens : List Opener) (dot : Bool) (kind other : Kind) (text rest : List ℕ) → IsTextIn c opens dot kind text rest → IsTextIn c opens dot other text rest → kind ≡ other
unfolding OneExpression
one_in one Expression opens dot kind other text rest h k = one opens dot kind other text rest h k
one_in one (Template quoted) opens dot kind other text rest h k = one_template quoted kind other text rest (ways quoted kind text rest h) (ways quoted other text rest k)

pub one_kind : OneExpression → OneKind
unfolding OneKind
one_kind one opens dot kind other text rest h k = one_in one (context opens) opens dot kind other text rest h k

-- WHERE SOMETHING IS LACKING nothing is read
module _ (one : OneKind) (some : Nonempty) where
  deep_reads : (s : State) (k : Kind) (text rest : List ℕ) → IsLongest s.opens s.after_dot (ahead s) k text rest → max_open < length (open_after k s.opens) → (t : Lexeme) (next : State) → Reads s t next → ⊥
  deep_reads s k text rest x deep t next r =
      let same = one_longest one s.opens s.after_dot (ahead s) k t.kind text t.text rest r.rest x r.longest in
      omega (arith, deep, r.room, ap length r.opens, ap (λ (z : Kind). length (open_after z s.opens)) same.kind_is)

  no_marker_reads : (s : State) (text rest : List ℕ) → IsLongest s.opens s.after_dot (ahead s) HeredocOpen text rest → ((n : ℕ) → ¬ IsMarkerLine (marker_of text) rest n) → (t : Lexeme) (next : State) → Reads s t next → ⊥
  no_marker_reads s text rest x none t next r =
      let same = one_longest one s.opens s.after_dot (ahead s) HeredocOpen t.kind text t.text rest r.rest x r.longest in
      let shown : Leaves HeredocOpen text rest s.hidden next.seen next.hidden = subst (λ (p : Kind × List ℕ × List ℕ). Leaves p.0 p.1 p.2 s.hidden next.seen next.hidden) (sym (λ i. (same.kind_is i, same.text_is i, same.rest_is i))) r.leaves in
      none shown.0 shown.1.here

  empty_ahead : (s : State) → s.seen ≡ [] → length (ahead s) ≡ 0
  empty_ahead s e = omega (arith, length-drop (gap_len s) s.seen, ap length e)

  pub lacks_stuck : (s : State) (kind : FaultKind) → Lacks s kind → Stuck s
  lacks_stuck s kind (at_end e is) t next (inl r) = nothing_ahead some s t next (ap length e) r
  lacks_stuck s kind (at_end e is) t next (inr c) = let f = ap (λ o. end_fault (unclosed_opener o)) c.top in let g = sym f ∙ is in absurd (cc)
  lacks_stuck s kind (no_token front none is) t next (inl r) = none t.kind t.text r.rest r.longest.whole r.longest.spelled
  lacks_stuck s kind (no_token front none is) t next (inr c) = omega (arith, front, empty_ahead s c.read)
  lacks_stuck s kind (too_deep k text rest x deep is) t next (inl r) = deep_reads s k text rest x deep t next r
  lacks_stuck s kind (too_deep k text rest x deep is) t next (inr c) = omega (arith, some_ahead some s k text rest x, empty_ahead s c.read)
  lacks_stuck s kind (no_marker_line text rest x room none is) t next (inl r) = no_marker_reads s text rest x none t next r
  lacks_stuck s kind (no_marker_line text rest x room none is) t next (inr c) = omega (arith, some_ahead some s HeredocOpen text rest x, empty_ahead s c.read)

-- a run, and one more token
pub Run-push : (s : State) (ts : List Lexeme) (mid : State) (t : Lexeme) (end : State) → Run s ts mid → Next mid t end → Run s (ts ++ t ∷ []) end
Run-push s [] mid t end run next = (end, subst (λ (z : State). Next z t end) (sym run) next, refl)
Run-push s (u ∷ ts) mid t end run next = (run.0, run.1, Run-push run.0 ts mid t end run.2 next)
