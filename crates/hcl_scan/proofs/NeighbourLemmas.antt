-- The table of neighbours, kind by kind: if the table says so, a token outside heredocs that was the longest before one
-- text is the longest before another. The proof needs only that the text is spelled: a longer one would begin with the
-- same two bytes, and so be of the same kind, or of one more.
use Rattle.std.proofs.Common.{◌≡◌, ℕ, ◌<◌, ◌&&◌, ◌||◌, ◌==◌, not, Bool, true, false, List, [], ◌∷◌, ◌++◌, length, take, drop, get_or, if◌then◌else◌, ◌⊎◌, inl, inr, ⊎_elim, refl, sym, ap, subst, ◌∙◌, arith, length-append, None}
use Rattle.std.specs.Char.{is_ascii_digit}
use Rattle.hcl_tokens.specs.Lexemes.{Opener, in_heredoc}
use Rattle.hcl_tokens.specs.Spelling.{IsExpressionText, IsSpelling, IsTextIn, IsLiteral, context, Context, Template, Expression, starts, are_elements, element_len}
use Rattle.hcl_tokens.specs.Scans.{IsLongest}
use Rattle.hcl_tokens.specs.Kinds.{is}
use Rattle.hcl_tokens.specs.Neighbours.{grows, joins_text, same_close, stays}
use Rattle.hcl_tokens.specs.declared.token.Kind.{Kind}
use Rattle.hcl_tokens.specs.declared.token.Kind.TheVariants.{Newline, LineComment, InlineComment, Blank, Ident, Number, HeredocOpen, SeqClose, BraceClose, Slash, Lit, InterpOpen, ControlOpen, QuoteClose}
use Rattle.hcl_tokens.proofs.BooleanLemmas.{and_true, none_of, not_true, or_cases}
use Rattle.hcl_scan.proofs.WayLemmas.{Ways, ways, newline, line_comment, inline_comment, blanks, ident, digits, number, heredoc, seq_close, brace_close, slash, mark, is_marked, mark_kind}
use Rattle.hcl_scan.proofs.TemplateLemmas.{lit_found, interp_found, control_found, quote_found, of_template}
use Rattle.hcl_scan.proofs.TemplateLemmas.{Way, lit, interp, control, quote as closing}
use Rattle.hcl_scan.proofs.TemplateLemmas as templates
use Rattle.hcl_scan.proofs.TextStartLemmas.{starts_is}
use Rattle.std.proofs.Math.Seq.{take-append_seam, drop-append_seam}
use Rattle.hcl_scan.specs.Inner.Found.{Finds}
use Rattle.hcl_scan.proofs.ContextLemmas.{heredoc_on_top}
use Rattle.hcl_scan.proofs.PrefixLemmas.{some}
use Rattle.hcl_scan.proofs.WordLemmas.{stops_number}
use Rattle.hcl_scan.proofs.LongerTextLemmas.{Alone}
use Rattle.hcl_scan.proofs.WordNeighbourLemmas.{ident_alone, number_alone, digits_alone, stops_ident, stops_digits}
use Rattle.hcl_scan.proofs.PunctuationNeighbourLemmas.{mark_alone, stops_mark}
use Rattle.hcl_scan.proofs.CommentNeighbourLemmas.{newline_alone, line_alone, inline_alone, slash_alone}
use Rattle.hcl_scan.proofs.HeredocNeighbourLemmas.{heredoc_alone, closer_alone}
use Rattle.hcl_scan.proofs.LiteralNeighbourLemmas.{CloseAlike, quote, dollar, percent, literal_only, ends_here}

-- ---- the table, in the form that each kind takes
for_ident : (other : List ℕ) → not (grows Ident (get_or other 0 0)) ≡ true → stops_ident other ≡ true
for_ident [] h = refl
for_ident (b ∷ other) h = h

for_mark : (kind : Kind) (other : List ℕ) → not (grows kind (get_or other 0 0)) ≡ true → stops_mark kind other ≡ true
for_mark kind [] h = refl
for_mark kind (b ∷ other) h = h

for_digits : (other : List ℕ) → not (grows Number (get_or other 0 0)) ≡ true → stops_digits other ≡ true
for_digits [] h = refl
for_digits (b ∷ other) h = by (is_ascii_digit b) (b == 101) (b == 69) h
  where
    by : (v w x : Bool) → not (v || w || x) ≡ true → not v ≡ true
    by true w x k = k
    by false w x k = refl

for_number : (other : List ℕ) → not (joins_text false Number other) ≡ true → stops_number other ≡ true
for_number [] h = refl
for_number (b ∷ other) h = by (is_ascii_digit b) (b == 101) (b == 69) (b == 46) (is_ascii_digit (get_or other 0 0)) h
  where
    by : (d e f p n : Bool) → not ((d || e || f) || (true && true && p && n)) ≡ true → (not d && not (e || f) && (not p || not n)) ≡ true
    by true e f p n k = cc
    by false true f p n k = cc
    by false false true p n k = cc
    by false false false true true k = cc
    by false false false true false k = refl
    by false false false false n k = refl

mark_stays : (dot : Bool) (kind : Kind) (rest other : List ℕ) → is_marked kind ≡ true → stays dot kind rest other ≡ true → not (grows kind (get_or other 0 0)) ≡ true
mark_stays dot LineComment rest other m h = absurd (cc)
mark_stays dot Lit rest other m h = absurd (cc)
mark_stays dot kind rest other m h = (none_of (grows kind (get_or other 0 0)) (is Number kind && not dot && (get_or other 0 0 == 46) && is_ascii_digit (get_or other 1 0)) h).0

mark_before : (opens : List Opener) (dot : Bool) (kind : Kind) (text rest other : List ℕ) → is_marked kind ≡ true → IsExpressionText opens dot kind text rest → IsExpressionText opens dot kind text other
mark_before opens dot Newline text rest other m h = absurd (cc)
mark_before opens dot LineComment text rest other m h = absurd (cc)
mark_before opens dot InlineComment text rest other m h = absurd (cc)
mark_before opens dot Blank text rest other m h = absurd (cc)
mark_before opens dot Ident text rest other m h = absurd (cc)
mark_before opens dot Number text rest other m h = absurd (cc)
mark_before opens dot HeredocOpen text rest other m h = absurd (cc)
mark_before opens dot SeqClose text rest other m h = absurd (cc)
mark_before opens dot BraceClose text rest other m h = absurd (cc)
mark_before opens dot Slash text rest other m h = absurd (cc)
mark_before opens dot _ text rest other m h = h

-- ---- expressions
sure : (opens : List Opener) (dot : Bool) (kind : Kind) (text rest other : List ℕ) → in_heredoc opens ≡ false → IsExpressionText opens dot kind text rest → stays dot kind rest other ≡ true → Alone opens dot text other × IsExpressionText opens dot kind text other
sure opens dot kind text rest other plain this h = by (ways opens dot kind text rest this)
  where
    long : 0 < length text
    long = some opens dot kind text rest (ways opens dot kind text rest this)

    table : (k : Kind) → kind ≡ k → stays dot k rest other ≡ true
    table k e = subst (λ (z : Kind). stays dot z rest other ≡ true) e h

    back : (k : Kind) → kind ≡ k → IsExpressionText opens dot k text other → IsExpressionText opens dot kind text other
    back k e x = subst (λ (z : Kind). IsExpressionText opens dot z text other) (sym e) x

    with_dot : (v : Bool) → dot ≡ v → IsExpressionText opens v kind text other → IsExpressionText opens dot kind text other
    with_dot v e x = subst (λ (z : Bool). IsExpressionText opens z kind text other) (sym e) x

    by : Ways opens dot kind text rest → Alone opens dot text other × IsExpressionText opens dot kind text other
    by (newline k x) = (newline_alone opens dot text other x, back Newline k x)
    by (line_comment k x) = (line_alone opens dot text other long x (table LineComment k), back LineComment k x)
    by (inline_comment k x) = (inline_alone opens dot text other x, back InlineComment k x)
    by (blanks k i x) = absurd (cc)
    by (ident k x) = (ident_alone opens dot text other x (for_ident other (none_of (grows Ident (get_or other 0 0)) (is Number Ident && not dot && (get_or other 0 0 == 46) && is_ascii_digit (get_or other 1 0)) (table Ident k)).0), back Ident k x)
    by (digits k d x) = (
      subst (λ v. Alone opens v text other) (sym d) (digits_alone opens text other x (for_digits other (none_of (grows Number (get_or other 0 0)) (is Number Number && not dot && (get_or other 0 0 == 46) && is_ascii_digit (get_or other 1 0)) (table Number k)).0)),
      with_dot true d (subst (λ (z : Kind). IsExpressionText opens true z text other) (sym k) x),
    )
    by (number k d x) = (
      subst (λ v. Alone opens v text other) (sym d) (number_alone opens text other x (for_number other (subst (λ v. not (joins_text v Number other) ≡ true) d (table Number k)))),
      with_dot false d (subst (λ (z : Kind). IsExpressionText opens false z text other) (sym k) x),
    )
    by (heredoc k x) = (heredoc_alone opens dot text other x, back HeredocOpen k x)
    by (seq_close k c x) = (closer_alone opens dot text other x, back SeqClose k (c, x))
    by (brace_close k c x) = (closer_alone opens dot text other (inl x), back BraceClose k (c, x))
    by (slash k x c) =
        let stop : grows Slash (get_or other 0 0) ≡ false = not_true (grows Slash (get_or other 0 0)) (none_of (grows Slash (get_or other 0 0)) (is Number Slash && not dot && (get_or other 0 0 == 46) && is_ascii_digit (get_or other 1 0)) (table Slash k)).0 in
        (slash_alone opens dot text other x stop, back Slash k (x, no_star other stop))
      where
        no_star : (other : List ℕ) → grows Slash (get_or other 0 0) ≡ false → starts other (42 ∷ []) ≡ false
        no_star [] e = refl
        no_star (b ∷ other) e = by_two (b == 47) (b == 42) e
          where
            by_two : (v w : Bool) → (v || w) ≡ false → (w && true) ≡ false
            by_two true w k = absurd (cc)
            by_two false true k = absurd (cc)
            by_two false false k = refl
    by (mark x) = (mark_alone opens dot kind text other plain x (for_mark kind other (mark_stays dot kind rest other (mark_kind text kind x) h)), mark_before opens dot kind text rest other (mark_kind text kind x) this)

-- ---- templates
found_front : (opens : List Opener) (dot : Bool) (kind : Kind) (text other : List ℕ) → Finds opens dot (text ++ other) kind (length text) → IsLongest opens dot (text ++ other) kind text other
found_front opens dot kind text other f = subst (λ (z : List ℕ × List ℕ). IsLongest opens dot (text ++ other) kind z.0 z.1) (λ i. (take-append_seam text other i, drop-append_seam text other i)) f.longest

closer_by : (rest other front : List ℕ) → (starts rest front && starts other front) ≡ true → (x y : List ℕ) × (rest ≡ front ++ x) × (other ≡ front ++ y)
closer_by rest other front h =
    let p = and_true (starts rest front) (starts other front) h in
    (drop (length front) rest, drop (length front) other, starts_is rest front p.0, starts_is other front p.1)

closer_is : (rest other : List ℕ) → same_close rest other ≡ true → CloseAlike rest other
closer_is rest other h = ⊎_elim
    (λ two. ⊎_elim
    (λ q. let b = closer_by rest other (34 ∷ []) q in quote b.0 b.1 b.2 b.3)
    (λ d. let b = closer_by rest other (36 ∷ 123 ∷ []) d in dollar b.0 b.1 b.2 b.3)
    (or_cases (starts rest (34 ∷ []) && starts other (34 ∷ [])) (starts rest (36 ∷ 123 ∷ []) && starts other (36 ∷ 123 ∷ [])) two))
    (λ p. let b = closer_by rest other (37 ∷ 123 ∷ []) p in percent b.0 b.1 b.2 b.3)
    (or_cases ((starts rest (34 ∷ []) && starts other (34 ∷ [])) || (starts rest (36 ∷ 123 ∷ []) && starts other (36 ∷ 123 ∷ []))) (starts rest (37 ∷ 123 ∷ []) && starts other (37 ∷ 123 ∷ [])) h)

no_tilde : (other : List ℕ) → not (get_or other 0 0 == 126) ≡ true → starts other (126 ∷ []) ≡ false
no_tilde [] h = refl
no_tilde (b ∷ other) h = by (b == 126) h
  where
    by : (v : Bool) → not v ≡ true → (v && true) ≡ false
    by true k = cc
    by false k = refl

module _ (opens : List Opener) (dot : Bool) (here : context opens ≡ Template true) (text rest other : List ℕ) where
  lit_kept : IsLiteral true text rest → CloseAlike rest other → IsLongest opens dot (text ++ other) Lit text other
  lit_kept is b =
      let elements : are_elements true 0 text other ≡ true = sym (literal_only true 0 text rest other b) ∙ is.1 in
      let n : ℕ = length text in
      let cut : are_elements true 0 (take n (text ++ other)) (drop n (text ++ other)) ≡ true = (λ i. are_elements true 0 (take-append_seam text other i) (drop-append_seam text other i)) ∙ elements in
      let ends : element_len true (drop n (text ++ other)) ≡ None = ap (element_len true) (drop-append_seam text other) ∙ ends_here other rest b in
      found_front opens dot Lit text other (lit_found true opens dot here (text ++ other) n (omega (arith, length-append text other)) is.0 cut ends)

  opener_size : (s : ℕ) → (text ≡ s ∷ 123 ∷ []) ⊎ (text ≡ s ∷ 123 ∷ 126 ∷ []) → not (get_or other 0 0 == 126) ≡ true → (if starts (drop 2 (text ++ other)) (126 ∷ []) then 3 else 2) ≡ length text
  opener_size s (inl e) h = ap (λ l. if starts (drop 2 (l ++ other)) (126 ∷ []) then 3 else 2) e ∙ ap (λ v. if v then 3 else 2) (no_tilde other h) ∙ ap length (sym e)
  opener_size s (inr e) h = ap (λ l. if starts (drop 2 (l ++ other)) (126 ∷ []) then 3 else 2) e ∙ ap length (sym e)

  opener_starts : (s : ℕ) → (s == s) ≡ true → (text ≡ s ∷ 123 ∷ []) ⊎ (text ≡ s ∷ 123 ∷ 126 ∷ []) → starts (text ++ other) (s ∷ 123 ∷ []) ≡ true
  opener_starts s same (inl e) = ap (λ l. starts (l ++ other) (s ∷ 123 ∷ [])) e ∙ (λ i. same i && starts (123 ∷ other) (123 ∷ []))
  opener_starts s same (inr e) = ap (λ l. starts (l ++ other) (s ∷ 123 ∷ [])) e ∙ (λ i. same i && starts (123 ∷ 126 ∷ other) (123 ∷ []))

  template_kept : (kind : Kind) → Way true kind text rest → stays dot kind rest other ≡ true → IsLongest opens dot (text ++ other) kind text other
  template_kept kind (lit k x) h = subst (λ (z : Kind). IsLongest opens dot (text ++ other) z text other) (sym k) (lit_kept x (closer_is rest other (subst (λ (z : Kind). stays dot z rest other ≡ true) k h)))
  template_kept kind (interp k x) h =
      let t = (none_of (grows InterpOpen (get_or other 0 0)) (is Number InterpOpen && not dot && (get_or other 0 0 == 46) && is_ascii_digit (get_or other 1 0)) (subst (λ (z : Kind). stays dot z rest other ≡ true) k h)).0 in
      subst (λ (z : Kind). IsLongest opens dot (text ++ other) z text other) (sym k) (found_front opens dot InterpOpen text other (subst (λ n. Finds opens dot (text ++ other) InterpOpen n) (opener_size 36 x t) (interp_found true opens dot here (text ++ other) (opener_starts 36 refl x))))
  template_kept kind (control k x) h =
      let t = (none_of (grows ControlOpen (get_or other 0 0)) (is Number ControlOpen && not dot && (get_or other 0 0 == 46) && is_ascii_digit (get_or other 1 0)) (subst (λ (z : Kind). stays dot z rest other ≡ true) k h)).0 in
      subst (λ (z : Kind). IsLongest opens dot (text ++ other) z text other) (sym k) (found_front opens dot ControlOpen text other (subst (λ n. Finds opens dot (text ++ other) ControlOpen n) (opener_size 37 x t) (control_found true opens dot here (text ++ other) (opener_starts 37 refl x))))
  template_kept kind (closing k q x) h =
      subst (λ (z : Kind). IsLongest opens dot (text ++ other) z text other) (sym k) (found_front opens dot QuoteClose text other (subst (λ n. Finds opens dot (text ++ other) QuoteClose n) (ap length (sym x)) (quote_found true opens dot here (text ++ other) refl (ap (λ l. starts (l ++ other) (34 ∷ [])) x))))

-- ---- all places
kept_in : (c : Context) (opens : List Opener) (dot : Bool) (kind : Kind) (text rest other : List ℕ) → context opens ≡ c → in_heredoc opens ≡ false → IsTextIn c opens dot kind text rest → stays dot kind rest other ≡ true → IsLongest opens dot (text ++ other) kind text other
kept_in Expression opens dot kind text rest other c plain is h =
    let s = sure opens dot kind text rest other plain is h in
    record {
      whole = refl;
      spelled = subst (λ z. IsTextIn z opens dot kind text other) (sym c) s.1;
      longest = λ k longer left e lt x. s.0 k longer left e lt (subst (λ z. IsTextIn z opens dot k longer left) c x);
    }
kept_in (Template true) opens dot kind text rest other c plain is h = template_kept opens dot c text rest other kind (templates.ways true kind text rest is) h
kept_in (Template false) opens dot kind text rest other c plain is h = absurd (let t = heredoc_on_top opens c in cc)

-- THE LAW
pub kept : (opens : List Opener) (dot : Bool) (kind : Kind) (text rest other : List ℕ) → in_heredoc opens ≡ false → IsSpelling opens dot kind text rest → stays dot kind rest other ≡ true → IsLongest opens dot (text ++ other) kind text other
kept opens dot kind text rest other plain is h = kept_in (context opens) opens dot kind text rest other refl plain is h
