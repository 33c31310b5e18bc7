-- A print is scanned to the tokens that make it: there is one gap for each token, and each fits.
use Rattle.std.proofs.Common.{◌≡◌, ℕ, suc, ◌&&◌, not, Bool, true, false, List, [], ◌∷◌, ◌++◌, length, replicate, Option, Some, None, refl, sym, ap, subst, ◌∙◌, append_assoc}
use Rattle.std.specs.Prelude.{if◌then◌else◌}
use Rattle.std.specs.List.{flat_map}
use Rattle.std.proofs.lemmas.Bool.{false≢true}
use Rattle.hcl_tokens.specs.Lexemes.{Lexeme}
use Rattle.hcl_tokens.specs.Scans.{Scans}
use Rattle.hcl_tokens.specs.Regapped.{AllFit, without_gaps, text_with_gaps}
use Rattle.hcl_tokens.specs.SideBySide.{Besides}
use Rattle.hcl_tokens.specs.declared.token.Kind.{Kind}
use Rattle.hcl_tokens.specs.declared.token.Kind.TheVariants as kind
use Rattle.hcl_scan.proofs.OtherGapLemmas.{other_gaps}
use Rattle.hcl_scan.proofs.SideBySideLemmas.{besides}
use Rattle.hcl_tokens.specs.Kinds.{is}
use Rattle.hcl_layout.specs.Lines.{Line, lines, onto_line, ends_line}
use Rattle.hcl_layout.specs.Gaps.{gaps, line_gaps}
use Rattle.hcl_layout.specs.Print.{print, printed_text}
use Rattle.text_format.specs.Reprinted.{with_gaps, printed_tokens}
use Rattle.text_format.proofs.PrintGapLemmas.{Spread, AllSpread, spread_lines}
use Rattle.text_format.proofs.FitLemmas.{Coherent, fits_here, coherent_on}

-- ---- all gaps
abbrev first_line : List Line → Line
first_line [] = []
first_line (l ∷ ls) = l

abbrev more_lines : List Line → List Line
more_lines [] = []
more_lines (l ∷ ls) = ls

onto_first : (t : Lexeme) (ls : List Line) → onto_line t ls ≡ (t ∷ first_line ls) ∷ more_lines ls
onto_first t [] = refl
onto_first t (l ∷ ls) = refl

abbrev all_gaps : List (List ℕ) → List ℕ
all_gaps gs = flat_map (λ g. g) gs

record Cut (gs : List (List ℕ)) (ls : List Line) : Type 0 where
  front : List ℕ
  back : List (List ℕ)
  whole : all_gaps gs ≡ front ++ all_gaps back
  first : Spread None None front (first_line ls)
  more : AllSpread back (more_lines ls)

cut : (gs : List (List ℕ)) (ls : List Line) → AllSpread gs ls → Cut gs ls
cut [] [] s = record { front = []; back = []; whole = refl; first = tt; more = tt }
cut [] (l ∷ ls) s = absurd s
cut (g ∷ gs) [] s = absurd s
cut (g ∷ gs) (l ∷ ls) s = record { front = g; back = gs; whole = refl; first = s.0; more = s.1 }

newline_is : (k : Kind) (v : Bool) → (is kind.Newline k && v) ≡ true → k ≡ kind.Newline
newline_is kind.Newline v h = refl
newline_is _ v h = absurd (false≢true h)

abbrev Fits : List Lexeme → Type 0
Fits ts = (before u : Option Lexeme) (dot : Bool) (k : Kind) (g : List ℕ) (gs : List (List ℕ)) → Coherent before u dot k → Spread before u g (first_line (lines ts)) → AllSpread gs (more_lines (lines ts)) → Besides k ts → AllFit dot k (with_gaps (g ++ all_gaps gs) ts)

-- a line continues, or the next begins
fits_cons : (t : Lexeme) (ts : List Lexeme) → Fits ts → (v : Bool) → ends_line t ≡ v → (ls : List Line) → ls ≡ (if v then (t ∷ []) ∷ lines ts else onto_line t (lines ts)) →
    (before u : Option Lexeme) (dot : Bool) (k : Kind) (g : List ℕ) (gs : List (List ℕ)) → Coherent before u dot k → Spread before u g (first_line ls) → AllSpread gs (more_lines ls) → Besides k (t ∷ ts) → AllFit dot k (with_gaps (g ++ all_gaps gs) (t ∷ ts))
fits_cons t ts rec true e ls this before u dot k g gs c s more b = by g (subst (λ l. Spread before u g (first_line l)) this s)
  where
    by : (g : List ℕ) → Spread before u g (t ∷ []) → AllFit dot k (with_gaps (g ++ all_gaps gs) (t ∷ ts))
    by [] s = absurd s
    by (x ∷ y ∷ g) s = absurd s.1
    by (x ∷ []) s =
        let q = cut gs (lines ts) (subst (λ l. AllSpread gs (more_lines l)) this more) in (
          fits_here before u dot k x t c s.0 b.0,
          subst (λ l. AllFit (is kind.Dot k) t.kind (with_gaps l ts)) (sym q.whole) (rec None None (is kind.Dot k) t.kind q.front q.back (newline_is t.kind (not t.inside_heredoc) e) q.first q.more b.1),
        )
fits_cons t ts rec false e ls this before u dot k g gs c s more b = by g (subst (λ l. Spread before u g (first_line l)) (this ∙ onto_first t (lines ts)) s)
  where
    by : (g : List ℕ) → Spread before u g (t ∷ first_line (lines ts)) → AllFit dot k (with_gaps (g ++ all_gaps gs) (t ∷ ts))
    by [] s = absurd s
    by (x ∷ g) s = (fits_here before u dot k x t c s.0 b.0, rec u (Some t) (is kind.Dot k) t.kind g gs (coherent_on before u dot k t c) s.1 (subst (λ l. AllSpread gs (more_lines l)) (this ∙ onto_first t (lines ts)) more) b.1)

fits_all : (ts : List Lexeme) → Fits ts
fits_all [] before u dot k [] [] c s more b = tt
fits_all [] before u dot k [] (g ∷ gs) c s more b = absurd more
fits_all [] before u dot k (x ∷ g) gs c s more b = absurd s
fits_all (t ∷ ts) before u dot k g gs c s more b = fits_cons t ts (fits_all ts) (ends_line t) refl (lines (t ∷ ts)) refl before u dot k g gs c s more b

pub all_fit : (text : List ℕ) (ts : List Lexeme) → Scans text ts → AllFit false kind.Newline (with_gaps (gaps ts) ts)
all_fit text ts scans =
    let q = cut (line_gaps (lines ts)) (lines ts) (spread_lines (lines ts)) in
    subst (λ l. AllFit false kind.Newline (with_gaps l ts)) (sym q.whole) (fits_all ts None None false kind.Newline q.front q.back refl q.first q.more (besides text ts scans))

-- ---- as many gaps as tokens
spread_len : (before u : Option Lexeme) (g : List ℕ) (l : Line) → Spread before u g l → length g ≡ length l
spread_len before u [] [] s = refl
spread_len before u [] (t ∷ l) s = absurd s
spread_len before u (x ∷ g) [] s = absurd s
spread_len before u (x ∷ g) (t ∷ l) s = ap suc (spread_len u (Some t) g l s.1)

abbrev Long : List Lexeme → Type 0
Long ts = (before u : Option Lexeme) (g : List ℕ) (gs : List (List ℕ)) → Spread before u g (first_line (lines ts)) → AllSpread gs (more_lines (lines ts)) → without_gaps (with_gaps (g ++ all_gaps gs) ts) ≡ ts

long_cons : (t : Lexeme) (ts : List Lexeme) → Long ts → (v : Bool) → (ls : List Line) → ls ≡ (if v then (t ∷ []) ∷ lines ts else onto_line t (lines ts)) →
    (before u : Option Lexeme) (g : List ℕ) (gs : List (List ℕ)) → Spread before u g (first_line ls) → AllSpread gs (more_lines ls) → without_gaps (with_gaps (g ++ all_gaps gs) (t ∷ ts)) ≡ t ∷ ts
long_cons t ts rec true ls is before u g gs s more = by g (subst (λ l. Spread before u g (first_line l)) is s)
  where
    by : (g : List ℕ) → Spread before u g (t ∷ []) → without_gaps (with_gaps (g ++ all_gaps gs) (t ∷ ts)) ≡ t ∷ ts
    by [] s = absurd s
    by (x ∷ y ∷ g) s = absurd s.1
    by (x ∷ []) s =
        let q = cut gs (lines ts) (subst (λ l. AllSpread gs (more_lines l)) is more) in
        ap (λ l. t ∷ l) (ap (λ l. without_gaps (with_gaps l ts)) q.whole ∙ rec None None q.front q.back q.first q.more)
long_cons t ts rec false ls is before u g gs s more = by g (subst (λ l. Spread before u g (first_line l)) (is ∙ onto_first t (lines ts)) s)
  where
    by : (g : List ℕ) → Spread before u g (t ∷ first_line (lines ts)) → without_gaps (with_gaps (g ++ all_gaps gs) (t ∷ ts)) ≡ t ∷ ts
    by [] s = absurd s
    by (x ∷ g) s = ap (λ l. t ∷ l) (rec u (Some t) g gs s.1 (subst (λ l. AllSpread gs (more_lines l)) (is ∙ onto_first t (lines ts)) more))

long_all : (ts : List Lexeme) → Long ts
long_all [] before u [] [] s more = refl
long_all [] before u [] (g ∷ gs) s more = absurd more
long_all [] before u (x ∷ g) gs s more = absurd s
long_all (t ∷ ts) before u g gs s more = long_cons t ts (long_all ts) (ends_line t) (lines (t ∷ ts)) refl before u g gs s more

pub tokens_are : (ts : List Lexeme) → without_gaps (with_gaps (gaps ts) ts) ≡ ts
tokens_are ts = let q = cut (line_gaps (lines ts)) (lines ts) (spread_lines (lines ts)) in ap (λ l. without_gaps (with_gaps l ts)) q.whole ∙ long_all ts None None q.front q.back q.first q.more

-- ---- the print
text_is : (gs : List ℕ) (ts : List Lexeme) → text_with_gaps (with_gaps gs ts) ≡ printed_text gs ts
text_is [] ts = refl
text_is (g ∷ gs) [] = refl
text_is (g ∷ gs) (t ∷ ts) = ap (λ l. replicate g 32 ++ (t.text ++ l)) (text_is gs ts) ∙ sym (append_assoc (replicate g 32) t.text (printed_text gs ts))

-- THE PRINT IS SCANNED to the tokens that make it
pub scans_again : (text : List ℕ) (ts : List Lexeme) → Scans text ts → Scans (print ts) (printed_tokens ts)
scans_again text ts scanned =
    let again = other_gaps text (with_gaps (gaps ts) ts) (subst (λ l. Scans text l) (sym (tokens_are ts)) scanned) (all_fit text ts scanned) in
    subst (λ l. Scans l (printed_tokens ts)) (text_is (gaps ts) ts) again
