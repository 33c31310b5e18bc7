-- A newline or the end follows a comment to the end of its line: with no gap before it, the comment stays as it is.
use Rattle.std.proofs.Common.{◌≡◌, ℕ, zero, suc, ◌+◌, ◌<◌, ◌&&◌, ◌||◌, ◌==◌, not, Bool, true, false, cond, List, [], ◌∷◌, ◌++◌, length, drop, replicate, refl, sym, ap, subst, ◌∙◌, arith, length-append, append_assoc}
use Rattle.std.specs.List.{list_any, prefix_len}
use Rattle.std.proofs.lemmas.Bool.Decides.{nat_tests}
use Rattle.hcl_tokens.specs.Lexemes.{Lexeme, Opener, in_heredoc, open_after}
use Rattle.hcl_tokens.specs.Spelling.{IsLineComment, IsTextIn, context, Expression, starts, is_blank}
use Rattle.hcl_tokens.specs.Scans.{State, gap_in, has_gaps_in, ahead, IsLongest, Leaves, Reads, Run}
use Rattle.hcl_tokens.specs.Neighbours.{ends_comment, joins}
use Rattle.hcl_tokens.specs.Regapped.{without_gaps, text_with_gaps, gap_fits, AllFit}
use Rattle.hcl_tokens.specs.declared.token.Kind.{Kind}
use Rattle.hcl_tokens.specs.declared.token.Kind.TheVariants.{LineComment}
use Rattle.hcl_tokens.proofs.BooleanLemmas.{and_true, or_true}
use Rattle.hcl_scan.proofs.WayLemmas.{ways}
use Rattle.hcl_scan.proofs.PrefixLemmas.{some}
use Rattle.hcl_tokens.proofs.ExpressionKindLemmas.{in_expressions}
use Rattle.hcl_scan.proofs.KindPlaceLemmas.{Side, expression, template, side}
use Rattle.hcl_scan.proofs.TemplateLemmas.{lit, interp, control, quote}
use Rattle.hcl_scan.proofs.OtherStepLemmas.{zero_gap}
use Rattle.hcl_scan.proofs.InExpressionLemmas.{ReadPlain, read_plain}

any_more : (text more : List ℕ) → list_any (λ b. b == 10) text ≡ false → list_any (λ b. b == 10) more ≡ false → list_any (λ b. b == 10) (text ++ more) ≡ false
any_more [] more h k = k
any_more (c ∷ text) more h k = by (c == 10) (list_any (λ b. b == 10) text) (list_any (λ b. b == 10) (text ++ more)) h (any_more text more)
  where
    by : (v w x : Bool) → (v || w) ≡ false → (w ≡ false → list_any (λ b. b == 10) more ≡ false → x ≡ false) → (v || x) ≡ false
    by true w x h f = absurd (cc)
    by false w x h f = f h k

starts_on : (text more front : List ℕ) → starts text front ≡ true → starts (text ++ more) front ≡ true
starts_on text more [] h = starts_nil (text ++ more)
  where
    starts_nil : (l : List ℕ) → starts l [] ≡ true
    starts_nil [] = refl
    starts_nil (b ∷ l) = refl
starts_on [] more (c ∷ front) h = absurd (cc)
starts_on (b ∷ text) more (c ∷ front) h = let p = and_true (b == c) (starts text front) h in let rec = starts_on text more front p.1 in λ i. p.0 i && rec i

longer_comment : (text : List ℕ) (b : ℕ) → IsLineComment text → (b == 10) ≡ false → IsLineComment (text ++ b ∷ [])
longer_comment text b is other = (
  by (starts text (35 ∷ [])) (starts text (47 ∷ 47 ∷ [])) (starts (text ++ b ∷ []) (35 ∷ [])) (starts (text ++ b ∷ []) (47 ∷ 47 ∷ [])) is.0 (starts_on text (b ∷ []) (35 ∷ [])) (starts_on text (b ∷ []) (47 ∷ 47 ∷ [])),
  any_more text (b ∷ []) is.1 (ap (λ v. v || false) other),
)
  where
    by : (v w v' w' : Bool) → (v || w) ≡ true → (v ≡ true → v' ≡ true) → (w ≡ true → w' ≡ true) → (v' || w') ≡ true
    by true w v' w' h f g = ap (λ z. z || w') (f refl)
    by false w v' w' h f g = ap (λ z. v' || z) (g h) ∙ or_true v'

-- a longest comment ends before an LF, or at the end
pub comment_ends : (opens : List Opener) (dot : Bool) (text rest : List ℕ) → context opens ≡ Expression → IsLineComment text → IsLongest opens dot (text ++ rest) LineComment text rest → ends_comment rest ≡ true
comment_ends opens dot text [] here is x = refl
comment_ends opens dot text (b ∷ rest) here is x = by (b == 10) refl
  where
    by : (v : Bool) → (b == 10) ≡ v → (b == 10) ≡ true
    by true e = e
    by false e = absurd (x.longest LineComment (text ++ b ∷ []) rest (append_assoc text (b ∷ []) rest) (omega (arith, length-append text (b ∷ [])))
        (subst (λ c. IsTextIn c opens dot LineComment (text ++ b ∷ []) rest) (sym here) (longer_comment text b is e)))

pub line_gap : (opens : List Opener) (seen : List ℕ) → 0 < length (drop (gap_in opens seen) seen) → ends_comment seen ≡ true → drop (gap_in opens seen) seen ≡ seen
line_gap opens [] h e = absurd (omega (arith, h, no_drop (gap_in opens [])))
  where
    no_drop : (n : ℕ) → length (drop {A = ℕ} n []) ≡ 0
    no_drop zero = refl
    no_drop (suc n) = refl
line_gap opens (b ∷ seen) h e = by (has_gaps_in (context opens) (in_heredoc opens)) (is_blank b) (not_blank b e)
  where
    not_blank : (b : ℕ) → (b == 10) ≡ true → is_blank b ≡ false
    not_blank b h = grind (arith, nat_tests)

    by : (v w : Bool) → w ≡ false → drop (cond v (cond w (1 + prefix_len is_blank seen) 0) 0) (b ∷ seen) ≡ b ∷ seen
    by true true k = absurd (cc)
    by true false k = refl
    by false w k = refl

pub comment_spelled : (opens : List Opener) (dot : Bool) (text rest : List ℕ) → Side opens dot LineComment text rest → (context opens ≡ Expression) × IsLineComment text
comment_spelled opens dot text rest (expression e k h) = (e, h)
comment_spelled opens dot text rest (template quoted e (lit l h)) = absurd (let c = ap in_expressions l in cc)
comment_spelled opens dot text rest (template quoted e (interp l h)) = absurd (let c = ap in_expressions l in cc)
comment_spelled opens dot text rest (template quoted e (control l h)) = absurd (let c = ap in_expressions l in cc)
comment_spelled opens dot text rest (template quoted e (quote l q h)) = absurd (let c = ap in_expressions l in cc)

front_lf : (text more other : List ℕ) → 0 < length text → ends_comment (text ++ more) ≡ true → ends_comment (text ++ other) ≡ true
front_lf [] more other some h = absurd (omega arith)
front_lf (b ∷ text) more other some h = h

pub comment_on : (s : State) (t : Lexeme) (next end : State) (r : Reads s t next) → in_heredoc s.opens ≡ false → t.kind ≡ LineComment → (ps : List (ℕ × Lexeme)) → Run next (without_gaps ps) end → AllFit s.after_dot t.kind ps → ends_comment (text_with_gaps ps) ≡ true
comment_on s t next end r plain k [] run parts = refl
comment_on s t next end r plain k (p ∷ ps) run parts =
    ap (λ n. ends_comment (replicate n 32 ++ (p.1.text ++ text_with_gaps ps))) gap
    ∙ front_lf p.1.text x.rest (text_with_gaps ps) long (ap ends_comment (x.whole ∙ ahead_is) ∙ rest_ends)
  where
    longest : IsLongest s.opens s.after_dot (t.text ++ r.rest) LineComment t.text r.rest
    longest = subst (λ (z : Kind). IsLongest s.opens s.after_dot (t.text ++ r.rest) z t.text r.rest) k (subst (λ l. IsLongest s.opens s.after_dot l t.kind t.text r.rest) (sym r.longest.whole) r.longest)

    spelled : (context s.opens ≡ Expression) × IsLineComment t.text
    spelled = comment_spelled s.opens s.after_dot t.text r.rest (side s.opens s.after_dot LineComment t.text r.rest longest.spelled)

    rest_ends : ends_comment r.rest ≡ true
    rest_ends = comment_ends s.opens s.after_dot t.text r.rest spelled.0 spelled.1 longest

    opens_same : next.opens ≡ s.opens
    opens_same = r.opens ∙ ap (λ (z : Kind). open_after z s.opens) k

    seen_is : next.seen ≡ r.rest
    seen_is = (subst (λ (z : Kind). Leaves z t.text r.rest s.hidden next.seen next.hidden) k r.leaves).0

    x : ReadPlain next p.1
    x = read_plain next p.1 run.0 (ap context opens_same ∙ spelled.0) (ap in_heredoc opens_same ∙ plain) run.1

    long : 0 < length p.1.text
    long = some next.opens next.after_dot p.1.kind p.1.text x.rest (ways next.opens next.after_dot p.1.kind p.1.text x.rest x.is)

    ahead_is : ahead next ≡ r.rest
    ahead_is = line_gap next.opens next.seen (omega (arith, long, ap length x.whole, length-append p.1.text x.rest)) (ap ends_comment seen_is ∙ rest_ends) ∙ seen_is

    gap : p.0 ≡ 0
    gap = zero_gap true p.0 (not (p.0 == 0) || not (joins s.after_dot LineComment p.1.kind p.1.text)) refl (subst (λ (z : Kind). gap_fits s.after_dot z p.1 p.0 ≡ true) k parts.0)
