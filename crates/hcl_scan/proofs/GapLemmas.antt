-- Outside heredocs no token begins with a blank: a gap before a token is read as that gap. After a marker line comes a
-- newline, whatever blanks are before it.
use Rattle.std.proofs.Common.{◌≡◌, ℕ, zero, suc, ◌+◌, ◌<◌, ◌&&◌, ◌||◌, ◌==◌, not, Bool, true, false, cond, List, [], ◌∷◌, ◌++◌, length, drop, get_or, replicate, inl, inr, ⊎_elim, refl, sym, ap, subst, ◌∙◌, arith, IsTrue}
use Rattle.std.specs.List.{prefix_len}
use Rattle.std.proofs.lemmas.Bool.Decides.{nat_tests}
use Rattle.hcl_tokens.specs.Lexemes.{Lexeme, Opener, in_heredoc}
use Rattle.hcl_tokens.specs.Spelling.{IsNewline, IsTextIn, IsExpressionText, is_blank, starts, context, Context, Template, Expression}
use Rattle.hcl_tokens.specs.Scans.{State, gap_in, gap_len, has_gaps_in, skip_blanks, at_line_end, Reads, Closes, Run, IsComplete}
use Rattle.hcl_scan.specs.Inner.Prefixes.{prefix_of}
use Rattle.hcl_tokens.specs.Regapped.{without_gaps, text_with_gaps, is_template, touches, gap_fits}
use Rattle.hcl_scan.specs.declared.front.Prefix.TheVariants.{LineEnd}
use Rattle.hcl_tokens.specs.declared.token.Kind.{Kind}
use Rattle.hcl_tokens.specs.declared.token.Kind.TheVariants.{LineComment}
use Rattle.hcl_scan.proofs.WayLemmas.{ways}
use Rattle.hcl_scan.proofs.TemplateLemmas.{way_template}
use Rattle.hcl_scan.proofs.TemplateLemmas as templates
use Rattle.hcl_scan.proofs.PrefixLemmas.{leads, some, blank_leads, newline_leads, space_kind, line_kind}
use Rattle.hcl_scan.proofs.OtherStepLemmas.{zero_gap}

-- outside heredocs no token begins with a blank
not_blank : (opens : List Opener) (dot : Bool) (kind : Kind) (text rest : List ℕ) → in_heredoc opens ≡ false → IsExpressionText opens dot kind text rest → is_blank (get_or text 0 0) ≡ false
not_blank opens dot kind text rest plain is = by (is_blank (get_or text 0 0)) refl
  where
    by : (v : Bool) → is_blank (get_or text 0 0) ≡ v → is_blank (get_or text 0 0) ≡ false
    by false e = e
    by true e =
        let k = space_kind kind (sym (leads opens dot kind text rest (ways opens dot kind text rest is)) ∙ blank_leads (get_or text 0 0) (get_or text 1 0) e) in
        let inside : in_heredoc opens ≡ true = (subst (λ (z : Kind). IsExpressionText opens dot z text rest) k is).0 in
        absurd (cc)

-- a gap and no blank after it
gap_is : (gap b : ℕ) (more : List ℕ) → is_blank b ≡ false → prefix_len is_blank (replicate gap 32 ++ b ∷ more) ≡ gap
gap_is zero b more h = ap (λ v. cond v (1 + prefix_len is_blank more) 0) h
gap_is (suc gap) b more h = omega (arith, gap_is gap b more h)

gap_before : (gap : ℕ) (text more : List ℕ) → 0 < length text → is_blank (get_or text 0 0) ≡ false → prefix_len is_blank (replicate gap 32 ++ (text ++ more)) ≡ gap
gap_before gap [] more some h = absurd (omega arith)
gap_before gap (b ∷ text) more some h = gap_is gap b (text ++ more) h

pub drop_blanks : (n : ℕ) (more : List ℕ) → drop n (replicate n 32 ++ more) ≡ more
drop_blanks zero more = refl
drop_blanks (suc n) more = drop_blanks n more

pub template_touches : (before : Kind) (t : Lexeme) → is_template t.kind ≡ true → touches before t ≡ true
template_touches LineComment t h = refl
template_touches _ t h = ap (λ v. v || t.inside_heredoc) h

gaps_in : (c : Context) (opens : List Opener) (after_dot dot : Bool) (before : Kind) (gap : ℕ) (t : Lexeme) (rest more : List ℕ) → IsTextIn c opens after_dot t.kind t.text rest → in_heredoc opens ≡ false → IsTrue (gap_fits dot before t gap) →
    cond (has_gaps_in c (in_heredoc opens)) (prefix_len is_blank (replicate gap 32 ++ (t.text ++ more))) 0 ≡ gap
gaps_in (Template quoted) opens after_dot dot before gap t rest more is plain fit =
    sym (zero_gap (touches before t) gap _ (template_touches before t (way_template quoted t.kind t.text rest (templates.ways quoted t.kind t.text rest is))) fit)
gaps_in Expression opens after_dot dot before gap t rest more is plain fit =
    ap (λ v. cond (not v) (prefix_len is_blank (replicate gap 32 ++ (t.text ++ more))) 0) plain
    ∙ gap_before gap t.text more (some opens after_dot t.kind t.text rest (ways opens after_dot t.kind t.text rest is)) (not_blank opens after_dot t.kind t.text rest plain is)

-- THE GAP that is read is the gap that was put
pub gaps : (s : State) (t : Lexeme) (next : State) (dot : Bool) (before : Kind) (gap : ℕ) (more : List ℕ) → Reads s t next → in_heredoc s.opens ≡ false → IsTrue (gap_fits dot before t gap) → gap_in s.opens (replicate gap 32 ++ (t.text ++ more)) ≡ gap
gaps s t next dot before gap more r plain fit = gaps_in (context s.opens) s.opens s.after_dot dot before gap t r.rest more r.longest.spelled plain fit

-- a text that begins with a newline is a newline
ends_lead : (text rest : List ℕ) → 0 < length text → at_line_end (text ++ rest) ≡ true → prefix_of text ≡ LineEnd
ends_lead [] rest some h = absurd (omega arith)
ends_lead (b ∷ text) rest some h = newline_leads b (get_or (b ∷ text) 1 0) (by (starts (text ++ rest) []) (starts (text ++ rest) (10 ∷ [])) h)
  where
    by : (x y : Bool) → (((b == 10) && x) || ((b == 13) && y)) ≡ true → ((b == 10) || (b == 13)) ≡ true
    by x y h = grind (arith, nat_tests)

ends_after : (gap : ℕ) (text more : List ℕ) → IsNewline text → at_line_end (skip_blanks (replicate gap 32 ++ (text ++ more))) ≡ true
ends_after gap text more (inl e) = ap (λ l. at_line_end (skip_blanks (replicate gap 32 ++ (l ++ more)))) e ∙ ap (λ n. at_line_end (drop n (replicate gap 32 ++ 10 ∷ more))) (gap_is gap 10 more refl) ∙ ap at_line_end (drop_blanks gap (10 ∷ more))
ends_after gap text more (inr e) = ap (λ l. at_line_end (skip_blanks (replicate gap 32 ++ (l ++ more)))) e ∙ ap (λ n. at_line_end (drop n (replicate gap 32 ++ 13 ∷ 10 ∷ more))) (gap_is gap 13 (10 ∷ more) refl) ∙ ap at_line_end (drop_blanks gap (13 ∷ 10 ∷ more))

-- AFTER A MARKER LINE comes a newline, or the end
pub lines : (s end : State) (ps : List (ℕ × Lexeme)) → context s.opens ≡ Expression → in_heredoc s.opens ≡ false → at_line_end (skip_blanks s.seen) ≡ true → Run s (without_gaps ps) end → IsComplete end → at_line_end (skip_blanks (text_with_gaps ps)) ≡ true
lines s end [] c plain ends run done = refl
lines s end (p ∷ ps) c plain ends run done = ⊎_elim reads closes run.1
  where
    closes : Closes s p.1 run.0 → at_line_end (skip_blanks (text_with_gaps (p ∷ ps))) ≡ true
    closes x = let e : in_heredoc s.opens ≡ true = ap in_heredoc x.top in absurd (cc)

    reads : Reads s p.1 run.0 → at_line_end (skip_blanks (text_with_gaps (p ∷ ps))) ≡ true
    reads r =
        let spelled : IsExpressionText s.opens s.after_dot p.1.kind p.1.text r.rest = subst (λ (z : Context). IsTextIn z s.opens s.after_dot p.1.kind p.1.text r.rest) c r.longest.spelled in
        let w = ways s.opens s.after_dot p.1.kind p.1.text r.rest spelled in
        let len : gap_len s ≡ prefix_len is_blank s.seen = (λ i. cond (has_gaps_in (c i) (plain i)) (prefix_len is_blank s.seen) 0) in
        let front : p.1.text ++ r.rest ≡ skip_blanks s.seen = r.longest.whole ∙ ap (λ n. drop n s.seen) len in
        let k = line_kind p.1.kind (sym (leads s.opens s.after_dot p.1.kind p.1.text r.rest w) ∙ ends_lead p.1.text r.rest (some s.opens s.after_dot p.1.kind p.1.text r.rest w) (ap at_line_end front ∙ ends)) in
        ends_after p.0 p.1.text (text_with_gaps ps) (subst (λ (z : Kind). IsExpressionText s.opens s.after_dot z p.1.text r.rest) k spelled)
