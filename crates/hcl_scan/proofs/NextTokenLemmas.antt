-- The text after a token, in a text of the same tokens with other gaps that fit, leaves the token as it is: by kinds,
-- for literal text here.
use Rattle.std.proofs.Common.{◌≡◌, ℕ, Bool, true, false, cond, List, [], ◌∷◌, ◌++◌, drop, replicate, ◌⊎◌, inl, inr, ⊎_elim, refl, sym, ap, subst, ◌∙◌, arith, length-append, append_assoc}
use Rattle.std.specs.List.{prefix_len}
use Rattle.hcl_tokens.specs.Lexemes.{Lexeme, Opener, in_heredoc, open_after}
use Rattle.hcl_tokens.specs.Spelling.{IsTextIn, IsLiteral, context, Template, is_blank, are_elements}
use Rattle.hcl_tokens.specs.Scans.{State, gap_in, has_gaps_in, unclosed_opener, IsLongest, Leaves, Reads, Closes, Run, IsComplete}
use Rattle.hcl_tokens.specs.Neighbours.{same_close, stays}
use Rattle.hcl_tokens.specs.Regapped.{without_gaps, text_with_gaps, touches, gap_fits, AllFit}
use Rattle.hcl_tokens.specs.declared.token.Kind.{Kind}
use Rattle.hcl_tokens.specs.declared.token.Kind.TheVariants.{LineComment, Ident, Number, Dot, Colon, Not, Assign, Less, Greater, Slash, Lit, InterpOpen, ControlOpen}
use Rattle.hcl_scan.proofs.ContextLemmas.{is_quoted, not_both, heredoc_on_top, quote_unclosed}
use Rattle.hcl_scan.proofs.KindPlaceLemmas.{Side, expression, template, side}
use Rattle.hcl_scan.proofs.TemplateLemmas.{Way, lit, interp, control, quote, way_template}
use Rattle.hcl_scan.proofs.ElementLemmas.{are_elements-append}
use Rattle.hcl_scan.proofs.OtherStepLemmas.{zero_gap}
use Rattle.hcl_scan.proofs.GapLemmas.{template_touches}
use Rattle.hcl_scan.proofs.NeighbourLemmas.{kept}
use Rattle.hcl_scan.proofs.InExpressionLemmas.{grower, growing_on, of_joins}
use Rattle.hcl_scan.proofs.AfterCommentLemmas.{comment_on}

-- the kinds, by the table's tests of the text after
data Sort (kind : Kind) : Type 0 where
  comment : kind ≡ LineComment → Sort kind
  literal : kind ≡ Lit → Sort kind
  growing : grower kind ≡ true → Sort kind
  settled : ((dot : Bool) (rest other : List ℕ) → stays dot kind rest other ≡ true) → Sort kind

sort_of : (kind : Kind) → Sort kind
sort_of LineComment = comment refl
sort_of Lit = literal refl
sort_of Ident = growing refl
sort_of Number = growing refl
sort_of Dot = growing refl
sort_of Colon = growing refl
sort_of Not = growing refl
sort_of Assign = growing refl
sort_of Less = growing refl
sort_of Greater = growing refl
sort_of Slash = growing refl
sort_of InterpOpen = growing refl
sort_of ControlOpen = growing refl
sort_of _ = settled (λ dot rest other. refl)

quoted_place : (opens : List Opener) (dot : Bool) (text rest : List ℕ) → in_heredoc opens ≡ false → Side opens dot Lit text rest → (context opens ≡ Template true) × IsLiteral true text rest
quoted_place opens dot text rest plain (expression e k h) = absurd (cc)
quoted_place opens dot text rest plain (template true e (lit k h)) = (e, h)
quoted_place opens dot text rest plain (template false e w) = absurd (let h = heredoc_on_top opens e in cc)
quoted_place opens dot text rest plain (template true e (interp k h)) = absurd (cc)
quoted_place opens dot text rest plain (template true e (control k h)) = absurd (cc)
quoted_place opens dot text rest plain (template true e (quote k q h)) = absurd (cc)

template_of : (opens : List Opener) (dot : Bool) (kind : Kind) (text rest : List ℕ) → context opens ≡ Template true → Side opens dot kind text rest → Way true kind text rest
template_of opens dot kind text rest c (expression e k h) = absurd (not_both (context opens) true e c)
template_of opens dot kind text rest c (template true e w) = w
template_of opens dot kind text rest c (template false e w) = absurd (let k : true ≡ false = ap is_quoted (sym c ∙ e) in cc)

-- the token of a template that is first in both
close_with : (kind : Kind) (text more other : List ℕ) → Way true kind text more → (kind ≡ Lit) ⊎ (same_close (text ++ more) (text ++ other) ≡ true)
close_with kind text more other (lit k h) = inl k
close_with kind text more other (interp k (inl e)) = inr (ap (λ l. same_close (l ++ more) (l ++ other)) e)
close_with kind text more other (interp k (inr e)) = inr (ap (λ l. same_close (l ++ more) (l ++ other)) e)
close_with kind text more other (control k (inl e)) = inr (ap (λ l. same_close (l ++ more) (l ++ other)) e)
close_with kind text more other (control k (inr e)) = inr (ap (λ l. same_close (l ++ more) (l ++ other)) e)
close_with kind text more other (quote k q e) = inr (ap (λ l. same_close (l ++ more) (l ++ other)) e)

lit_of : (kind : Kind) (text rest : List ℕ) → kind ≡ Lit → Way true kind text rest → IsLiteral true text rest
lit_of kind text rest k (lit l h) = h
lit_of kind text rest k (interp l h) = absurd (cc)
lit_of kind text rest k (control l h) = absurd (cc)
lit_of kind text rest k (quote l q h) = absurd (cc)

template_ahead : (opens : List Opener) (seen : List ℕ) → context opens ≡ Template true → drop (gap_in opens seen) seen ≡ seen
template_ahead opens seen e = ap (λ c. drop (cond (has_gaps_in c (in_heredoc opens)) (prefix_len is_blank seen) 0) seen) e

literal_on : (s : State) (t : Lexeme) (next end : State) (r : Reads s t next) → in_heredoc s.opens ≡ false → t.kind ≡ Lit → (ps : List (ℕ × Lexeme)) → Run next (without_gaps ps) end → IsComplete end → AllFit s.after_dot t.kind ps → same_close r.rest (text_with_gaps ps) ≡ true
literal_on s t next end r plain k ps run done parts = by ps run parts
  where
    longest : IsLongest s.opens s.after_dot (t.text ++ r.rest) Lit t.text r.rest
    longest = subst (λ (z : Kind). IsLongest s.opens s.after_dot (t.text ++ r.rest) z t.text r.rest) k (subst (λ l. IsLongest s.opens s.after_dot l t.kind t.text r.rest) (sym r.longest.whole) r.longest)

    spelled : (context s.opens ≡ Template true) × IsLiteral true t.text r.rest
    spelled = quoted_place s.opens s.after_dot t.text r.rest plain (side s.opens s.after_dot Lit t.text r.rest longest.spelled)

    opens_same : next.opens ≡ s.opens
    opens_same = r.opens ∙ ap (λ (z : Kind). open_after z s.opens) k

    seen_is : next.seen ≡ r.rest
    seen_is = (subst (λ (z : Kind). Leaves z t.text r.rest s.hidden next.seen next.hidden) k r.leaves).0

    here : context next.opens ≡ Template true
    here = ap context opens_same ∙ spelled.0

    by : (ps : List (ℕ × Lexeme)) → Run next (without_gaps ps) end → AllFit s.after_dot t.kind ps → same_close r.rest (text_with_gaps ps) ≡ true
    by [] run parts = absurd (let o = sym (quote_unclosed next.opens here) ∙ ap (λ (z : State). unclosed_opener z.opens) run ∙ done.1 in cc)
    by (p ∷ ps) run parts = ⊎_elim reads closes run.1
      where
        closes : Closes next p.1 run.0 → same_close r.rest (text_with_gaps (p ∷ ps)) ≡ true
        closes c = absurd (let e : in_heredoc next.opens ≡ true = ap in_heredoc c.top in let f : in_heredoc next.opens ≡ false = ap in_heredoc opens_same ∙ plain in cc)

        reads : Reads next p.1 run.0 → same_close r.rest (text_with_gaps (p ∷ ps)) ≡ true
        reads x =
            let w = template_of next.opens next.after_dot p.1.kind p.1.text x.rest here (side next.opens next.after_dot p.1.kind p.1.text x.rest x.longest.spelled) in
            let rest_is : p.1.text ++ x.rest ≡ r.rest = x.longest.whole ∙ template_ahead next.opens next.seen here ∙ seen_is in
            let fit : gap_fits s.after_dot Lit p.1 p.0 ≡ true = subst (λ (z : Kind). gap_fits s.after_dot z p.1 p.0 ≡ true) k parts.0 in
            let gap : p.0 ≡ 0 = zero_gap (touches Lit p.1) p.0 _ (template_touches Lit p.1 (way_template true p.1.kind p.1.text x.rest w)) fit in
            ⊎_elim
            (λ l.
            let m = lit_of p.1.kind p.1.text x.rest l w in
            let both : IsLiteral true (t.text ++ p.1.text) x.rest = (omega (arith, length-append t.text p.1.text, m.0), are_elements-append true 0 t.text p.1.text x.rest (subst (λ z. are_elements true 0 t.text z ≡ true) (sym rest_is) spelled.1.1) m.1) in
            absurd (longest.longest Lit (t.text ++ p.1.text) x.rest (append_assoc t.text p.1.text x.rest ∙ ap (λ z. t.text ++ z) rest_is) (omega (arith, length-append t.text p.1.text, m.0))
            (subst (λ c. IsTextIn c s.opens s.after_dot Lit (t.text ++ p.1.text) x.rest) (sym spelled.0) both)))
            (λ e. ap (λ n. same_close r.rest (replicate n 32 ++ (p.1.text ++ text_with_gaps ps))) gap ∙ ap (λ z. same_close z (p.1.text ++ text_with_gaps ps)) (sym rest_is) ∙ e)
            (close_with p.1.kind p.1.text x.rest (text_with_gaps ps) w)

-- THE LAW, for all kinds
pub follows : (s : State) (t : Lexeme) (next end : State) (ps : List (ℕ × Lexeme)) → (r : Reads s t next) → in_heredoc s.opens ≡ false → Run next (without_gaps ps) end → IsComplete end → AllFit s.after_dot t.kind ps →
    IsLongest s.opens s.after_dot (t.text ++ text_with_gaps ps) t.kind t.text (text_with_gaps ps)
follows s t next end ps r plain run done parts = kept s.opens s.after_dot t.kind t.text r.rest (text_with_gaps ps) plain r.longest.spelled (by (sort_of t.kind))
  where
    by : Sort t.kind → stays s.after_dot t.kind r.rest (text_with_gaps ps) ≡ true
    by (comment k) = subst (λ (z : Kind). stays s.after_dot z r.rest (text_with_gaps ps) ≡ true) (sym k) (comment_on s t next end r plain k ps run parts)
    by (literal k) = subst (λ (z : Kind). stays s.after_dot z r.rest (text_with_gaps ps) ≡ true) (sym k) (literal_on s t next end r plain k ps run done parts)
    by (growing g) = of_joins s.after_dot t.kind r.rest (text_with_gaps ps) g (growing_on s t next end r plain g ps run parts)
    by (settled h) = h s.after_dot r.rest (text_with_gaps ps)
