-- A text that is UTF-8 is cut between characters: each of its tokens is UTF-8.
use Rattle.std.proofs.Common.{◌≡◌, ℕ, ◌<◌, ◌==◌, Bool, true, false, cond, List, [], ◌∷◌, ◌++◌, length, take, drop, get_or, Option, Some, None, inl, inr, refl, sym, ap, subst, ◌∙◌, arith, length-append, append_assoc, IsUtf8, length-take-le}
use Rattle.std.specs.List.{prefix_len}
use Rattle.std.specs.Str.{IsCharBoundary}
use Rattle.std.proofs.lemmas.Str.{IsUtf8-take, IsUtf8-drop, IsCharBoundary-end, IsCharBoundary-before_ascii, IsCharBoundary-from_take}
use Rattle.std.proofs.lemmas.List.{take-append-drop}
use Rattle.std.proofs.lemmas.List.{get_or-append-add}
use Rattle.std.proofs.lemmas.Bool.Decides.{nat_tests}
use Rattle.hcl_tokens.specs.Lexemes.{Lexeme, Opener, in_heredoc, marker_of}
use Rattle.hcl_tokens.specs.Spelling.{IsTextIn, IsLiteral, context, Template, Expression, is_blank, are_elements, element_len, starts}
use Rattle.hcl_tokens.specs.Scans.{State, Hidden, hides, gap_in, has_gaps_in, ahead, begin, skip_blanks, at_line_end, closer_len, IsLongest, IsFirstMarkerLine, Next, Run, Scans}
use Rattle.hcl_tokens.specs.Neighbours.{ends_comment}
use Rattle.hcl_tokens.specs.SideBySide.{AreTexts}
use Rattle.hcl_tokens.specs.declared.token.Kind.{Kind}
use Rattle.hcl_tokens.specs.declared.token.Kind.TheVariants.{LineComment, Lit}
use Rattle.hcl_tokens.proofs.BooleanLemmas.{and_true}
use Rattle.hcl_scan.proofs.ShownLemmas.{Shown, opening, plain, shown}
use Rattle.hcl_scan.proofs.WayLemmas.{Ways, ways, newline, line_comment, inline_comment, blanks, ident, digits, number, heredoc, seq_close, brace_close, slash, mark}
use Rattle.hcl_scan.proofs.KindPlaceLemmas.{Side, expression, template, side}
use Rattle.hcl_scan.proofs.TemplateLemmas.{lit, interp, control, quote, lit_boundary}
use Rattle.hcl_scan.proofs.ElementLemmas.{one_element, are_elements-append}
use Rattle.hcl_scan.proofs.LiteralLemmas.{element_is}
use Rattle.hcl_scan.proofs.LongestFrontLemmas.{front_taken, front_dropped, front_within}
use Rattle.hcl_scan.proofs.TextCutLemmas.{EndsLow, low_cut, run_cut, newline_low, blanks_low, number_low, inline_low, heredoc_low, closer_low, mark_low}
use Rattle.hcl_scan.proofs.HeredocStepLemmas.{ascii_there, after_marker, line_boundary, closer_within}
use Rattle.hcl_scan.proofs.AfterCommentLemmas.{comment_ends}

low_there : (text rest seen : List ℕ) → IsUtf8 seen → text ++ rest ≡ seen → EndsLow text → IsCharBoundary seen (length text)
low_there text rest seen utf8 whole e = low_cut seen (length text) utf8 (front_within text rest seen whole) (subst EndsLow (sym (front_taken text rest seen whole)) e)

-- a text that is known
known : (text front : List ℕ) → text ≡ front → EndsLow front → EndsLow text
known text front e low = subst EndsLow (sym e) low

before_lf : (text rest seen : List ℕ) → text ++ rest ≡ seen → ends_comment rest ≡ true → IsCharBoundary seen (length text)
before_lf text [] seen whole h = subst (IsCharBoundary seen) (omega (arith, ap length whole, length-append text [])) (IsCharBoundary-end seen)
before_lf text (b ∷ rest) seen whole h =
    let at : get_or seen (length text) 0 ≡ b = ap (λ l. get_or l (length text) 0) (sym whole) ∙ ap (λ n. get_or (text ++ b ∷ rest) n 0) (omega arith) ∙ get_or-append-add text (b ∷ rest) 0 0 in
    IsCharBoundary-before_ascii seen (length text) (omega (arith, ap length whole, length-append text (b ∷ rest))) (subst (λ n. n < 128) (sym at) (low b h))
  where
    low : (b : ℕ) → (b == 10) ≡ true → b < 128
    low b h = grind (arith, nat_tests)

rest_none : (quoted : Bool) (opens : List Opener) (dot : Bool) (text rest seen : List ℕ) → context opens ≡ Template quoted → IsLiteral quoted text rest → IsLongest opens dot seen Lit text rest → element_len quoted rest ≡ None
rest_none quoted opens dot text rest seen c is x = by (element_len quoted rest) refl
  where
    by : (o : Option ℕ) → element_len quoted rest ≡ o → element_len quoted rest ≡ None
    by None e = e
    by (Some n) e =
        let fit = element_is quoted rest n e in
        let one = one_element quoted n rest e fit.0 fit.1 in
        let both = are_elements-append quoted 0 text (take n rest) (drop n rest) (subst (λ l. are_elements quoted 0 text l ≡ true) (sym (take-append-drop n rest)) is.1) one in
        let len = length-take-le n rest fit.1 in
        absurd (x.longest Lit (text ++ take n rest) (drop n rest) (append_assoc text (take n rest) (drop n rest) ∙ ap (λ l. text ++ l) (take-append-drop n rest) ∙ x.whole) (omega (arith, length-append text (take n rest), len, fit.0))
        (subst (λ z. IsTextIn z opens dot Lit (text ++ take n rest) (drop n rest)) (sym c) (lit_in quoted (text ++ take n rest) (drop n rest) (omega (arith, length-append text (take n rest), len, fit.0), both))))
      where
        lit_in : (quoted : Bool) (text rest : List ℕ) → IsLiteral quoted text rest → IsTextIn (Template quoted) opens dot Lit text rest
        lit_in true text rest h = h
        lit_in false text rest h = h

-- a token ends between characters
text_cut : (opens : List Opener) (dot : Bool) (seen : List ℕ) (kind : Kind) (text rest : List ℕ) → IsLongest opens dot seen kind text rest → IsUtf8 seen → IsCharBoundary seen (length text)
text_cut opens dot seen kind text rest x utf8 = by (side opens dot kind text rest x.spelled)
  where
    low : EndsLow text → IsCharBoundary seen (length text)
    low e = low_there text rest seen utf8 x.whole e

    comment : context opens ≡ Expression → kind ≡ LineComment → IsCharBoundary seen (length text)
    comment c k =
        let y : IsLongest opens dot (text ++ rest) LineComment text rest = subst (λ (z : Kind). IsLongest opens dot (text ++ rest) z text rest) k (subst (λ l. IsLongest opens dot l kind text rest) (sym x.whole) x) in
        let is = subst (λ z. IsTextIn z opens dot LineComment text rest) c y.spelled in
        before_lf text rest seen x.whole (comment_ends opens dot text rest c is y)

    way : context opens ≡ Expression → Ways opens dot kind text rest → IsCharBoundary seen (length text)
    way c (newline k is) = low (newline_low text is)
    way c (line_comment k is) = comment c k
    way c (inline_comment k is) = low (inline_low text is)
    way c (blanks k h is) = low (blanks_low true text is)
    way c (ident k is) = IsCharBoundary-from_take seen (length text) utf8 (front_within text rest seen x.whole) (subst IsUtf8 (sym (front_taken text rest seen x.whole)) (is.0, (is.1, sym is.3)))
    way c (digits k h is) = low (number_low true text is)
    way c (number k h is) = low (number_low false text is)
    way c (heredoc k is) = low (heredoc_low text is)
    way c (seq_close k h is) = low (closer_low true text is)
    way c (brace_close k h is) = low (closer_low false text is)
    way c (slash k is h) = low (known text (47 ∷ []) is (record { before = []; end = 47 ∷ []; whole = refl; some = omega arith; low = refl }))
    way c (mark is) = low (mark_low text kind is)

    two : (b : ℕ) → EndsLow (b ∷ 123 ∷ [])
    two b = record { before = b ∷ []; end = 123 ∷ []; whole = refl; some = omega arith; low = refl }

    three : (b : ℕ) → EndsLow (b ∷ 123 ∷ 126 ∷ [])
    three b = record { before = b ∷ 123 ∷ []; end = 126 ∷ []; whole = refl; some = omega arith; low = refl }

    by : Side opens dot kind text rest → IsCharBoundary seen (length text)
    by (expression c k h) = way c (ways opens dot kind text rest h)
    by (template quoted c (lit k h)) =
        let y : IsLongest opens dot seen Lit text rest = subst (λ (z : Kind). IsLongest opens dot seen z text rest) k x in
        lit_boundary quoted seen (length text) (front_within text rest seen x.whole) (ap (element_len quoted) (front_dropped text rest seen x.whole) ∙ rest_none quoted opens dot text rest seen c h y)
    by (template quoted c (interp k (inl e))) = low (known text (36 ∷ 123 ∷ []) e (two 36))
    by (template quoted c (interp k (inr e))) = low (known text (36 ∷ 123 ∷ 126 ∷ []) e (three 36))
    by (template quoted c (control k (inl e))) = low (known text (37 ∷ 123 ∷ []) e (two 37))
    by (template quoted c (control k (inr e))) = low (known text (37 ∷ 123 ∷ 126 ∷ []) e (three 37))
    by (template quoted c (quote k q e)) = low (known text (34 ∷ []) e (record { before = []; end = 34 ∷ []; whole = refl; some = omega arith; low = refl }))

-- ---- a reading
abbrev AllClean : List Hidden → Type 0
AllClean [] = Unit {0}
AllClean (h ∷ hs) = IsUtf8 h.closer × IsUtf8 h.after × AllClean hs

record Clean (s : State) : Type 0 where
  seen : IsUtf8 s.seen
  hidden : AllClean s.hidden

gap_cut : (opens : List Opener) (seen : List ℕ) → IsUtf8 seen → IsUtf8 (drop (gap_in opens seen) seen)
gap_cut opens seen utf8 = by (has_gaps_in (context opens) (in_heredoc opens))
  where
    ascii : (b : ℕ) → is_blank b ≡ true → b < 128
    ascii b h = grind (arith, nat_tests)

    by : (v : Bool) → IsUtf8 (drop (cond v (prefix_len is_blank seen) 0) seen)
    by true = IsUtf8-drop seen (prefix_len is_blank seen) utf8 (run_cut is_blank ascii seen utf8)
    by false = utf8

hidden_clean : (marker rest : List ℕ) (n : ℕ) → IsUtf8 rest → IsFirstMarkerLine marker rest n → IsUtf8 (take n rest) × IsUtf8 (hides marker (drop n rest)).closer × IsUtf8 (hides marker (drop n rest)).after
hidden_clean marker rest n utf8 first =
    let line : List ℕ = drop n rest in
    let at = line_boundary marker rest n utf8 first.here in
    let utf8_line = IsUtf8-drop rest n utf8 at in
    let ends = (and_true (starts (skip_blanks line) marker) (at_line_end (skip_blanks (drop (closer_len marker line) line))) first.here.marked).1 in
    let cut = ascii_there line (closer_len marker line) (closer_within marker line first.here.marked) (after_marker (drop (closer_len marker line) line) ends) in
    (IsUtf8-take rest n utf8 at, IsUtf8-take line (closer_len marker line) utf8_line cut, IsUtf8-drop line (closer_len marker line) utf8_line cut)

one_clean : (s : State) (t : Lexeme) (next : State) → Clean s → Next s t next → IsUtf8 t.text × Clean next
one_clean s t next clean (inl r) = (text_utf8, by (shown t.kind t.text r.rest s.hidden next.seen next.hidden r.leaves))
  where
    front : IsUtf8 (ahead s)
    front = gap_cut s.opens s.seen clean.seen

    cut : IsCharBoundary (ahead s) (length t.text)
    cut = text_cut s.opens s.after_dot (ahead s) t.kind t.text r.rest r.longest front

    text_utf8 : IsUtf8 t.text
    text_utf8 = subst IsUtf8 (front_taken t.text r.rest (ahead s) r.longest.whole) (IsUtf8-take (ahead s) (length t.text) front cut)

    rest_utf8 : IsUtf8 r.rest
    rest_utf8 = subst IsUtf8 (front_dropped t.text r.rest (ahead s) r.longest.whole) (IsUtf8-drop (ahead s) (length t.text) front cut)

    by : Shown t.kind t.text r.rest s.hidden next.seen next.hidden → Clean next
    by (plain k e e') = record { seen = subst IsUtf8 (sym e) rest_utf8; hidden = subst AllClean (sym e') clean.hidden }
    by (opening k n first e e') = let h = hidden_clean (marker_of t.text) r.rest n rest_utf8 first in record { seen = subst IsUtf8 (sym e) h.0; hidden = subst AllClean (sym e') (h.1, h.2, clean.hidden) }
one_clean s t next clean (inr c) =
    let h = subst AllClean c.line clean.hidden in
    (h.0, subst Clean (sym c.next_is) (record { seen = h.1; hidden = h.2 }))

run_clean : (s : State) (ts : List Lexeme) (end : State) → Clean s → Run s ts end → AreTexts ts
run_clean s [] end clean run = tt
run_clean s (t ∷ ts) end clean run = let one = one_clean s t run.0 clean run.1 in (one.0, run_clean run.0 ts end one.1 run.2)

-- THE LAW
pub texts_are : (text : List ℕ) (ts : List Lexeme) → IsUtf8 text → Scans text ts → AreTexts ts
texts_are text ts utf8 scans = run_clean (begin text) ts scans.0 (record { seen = utf8; hidden = tt }) scans.1
