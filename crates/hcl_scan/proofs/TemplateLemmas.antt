-- The tokens of templates: which is found, and whether the text may be cut after it.
use Rattle.std.proofs.Common.{◌≡◌, ℕ, zero, suc, ◌<◌, ◌≤◌, ◌&&◌, ◌||◌, ◌==◌, Bool, true, false, List, [], ◌∷◌, ◌++◌, length, take, drop, get_or, if◌then◌else◌, Option, Some, None, ◌⊎◌, inl, inr, ⊎_elim, refl, sym, ap, subst, ◌∙◌, arith, length-take-le, codes, IsUtf8}
use Rattle.std.specs.Str.{IsCharBoundary}
use Rattle.std.proofs.lemmas.Str.{IsCharBoundary-after_ascii, IsCharBoundary-before_ascii}
use Rattle.std.proofs.lemmas.List.{take-append-drop}
use Rattle.std.proofs.lemmas.Bool.Decides.{nat_tests}
use Rattle.hcl_tokens.specs.Lexemes.{Opener}
use Rattle.hcl_tokens.specs.Spelling.{starts, is_dollar_or_percent, ends_quoted, escape_len, element_len, are_elements, IsLiteral, IsTemplateText, IsTextIn, IsSpelling, Template, context}
use Rattle.hcl_tokens.specs.Scans.{HasNone}
use Rattle.hcl_scan.specs.Inner.Found.{Finds}
use Rattle.hcl_tokens.specs.Regapped.{is_template}
use Rattle.hcl_tokens.specs.declared.token.Kind.{Kind}
use Rattle.hcl_tokens.specs.declared.token.Kind.TheVariants.{Lit, InterpOpen, ControlOpen, QuoteClose}
use Rattle.hcl_scan.proofs.ElementLemmas.{no_longer_lit}
use Rattle.hcl_scan.proofs.TextStartLemmas.{starts_is, starts_so}

-- the texts of a template, by kind
pub data Way (quoted : Bool) (kind : Kind) (text rest : List ℕ) : Type 0 where
  lit : kind ≡ Lit → IsLiteral quoted text rest → Way quoted kind text rest
  interp : kind ≡ InterpOpen → ((text ≡ codes "${") ⊎ (text ≡ codes "${~")) → Way quoted kind text rest
  control : kind ≡ ControlOpen → ((text ≡ codes "%{") ⊎ (text ≡ codes "%{~")) → Way quoted kind text rest
  quote : kind ≡ QuoteClose → quoted ≡ true → text ≡ codes "\"" → Way quoted kind text rest

pub ways : (quoted : Bool) (kind : Kind) (text rest : List ℕ) → IsTemplateText quoted kind text rest → Way quoted kind text rest
ways true Lit text rest h = lit refl h
ways false Lit text rest h = lit refl h
ways true InterpOpen text rest h = interp refl h
ways false InterpOpen text rest h = interp refl h
ways true ControlOpen text rest h = control refl h
ways false ControlOpen text rest h = control refl h
ways true QuoteClose text rest h = quote refl refl h
ways false QuoteClose text rest h = absurd h
ways true _ text rest h = absurd h
ways false _ text rest h = absurd h

pub in_template : (quoted : Bool) (opens : List Opener) (dot : Bool) (kind : Kind) (text rest : List ℕ) → context opens ≡ Template quoted → IsSpelling opens dot kind text rest → Way quoted kind text rest
in_template quoted opens dot kind text rest here h = ways quoted kind text rest (subst (λ c. IsTextIn c opens dot kind text rest) here h)

pub of_template : (quoted : Bool) (opens : List Opener) (dot : Bool) (kind : Kind) (text rest : List ℕ) → context opens ≡ Template quoted → IsTemplateText quoted kind text rest → IsSpelling opens dot kind text rest
of_template quoted opens dot kind text rest here h = subst (λ c. IsTextIn c opens dot kind text rest) (sym here) h

-- where there is no element there is no literal text
pub no_lit : (quoted : Bool) (seen text rest : List ℕ) → element_len quoted seen ≡ None → text ++ rest ≡ seen → IsLiteral quoted text rest → ⊥
no_lit quoted seen text rest none whole h = no_longer_lit quoted 0 [] seen text rest refl none whole h.0 h.1

-- there is none before another token of a template
at_sequence : (quoted : Bool) (s : ℕ) (x : List ℕ) → (s ≡ 36) ⊎ (s ≡ 37) → element_len quoted (s ∷ 123 ∷ x) ≡ None
at_sequence quoted s x (inl e) = ap (λ z. element_len quoted (z ∷ 123 ∷ x)) e
at_sequence quoted s x (inr e) = ap (λ z. element_len quoted (z ∷ 123 ∷ x)) e

sequence_at : (s : ℕ) (text rest seen : List ℕ) → (text ≡ s ∷ 123 ∷ []) ⊎ (text ≡ s ∷ 123 ∷ 126 ∷ []) → text ++ rest ≡ seen → (x : List ℕ) × (seen ≡ s ∷ 123 ∷ x)
sequence_at s text rest seen (inl e) whole = (rest, sym whole ∙ ap (λ t. t ++ rest) e)
sequence_at s text rest seen (inr e) whole = (126 ∷ rest, sym whole ∙ ap (λ t. t ++ rest) e)

pub no_element : (quoted : Bool) (kind : Kind) (seen text rest : List ℕ) → text ++ rest ≡ seen → Way quoted kind text rest → (kind ≡ Lit) ⊎ (element_len quoted seen ≡ None)
no_element quoted kind seen text rest whole (lit k h) = inl k
no_element quoted kind seen text rest whole (interp k h) = let at = sequence_at 36 text rest seen h whole in inr (ap (element_len quoted) at.1 ∙ at_sequence quoted 36 at.0 (inl refl))
no_element quoted kind seen text rest whole (control k h) = let at = sequence_at 37 text rest seen h whole in inr (ap (element_len quoted) at.1 ∙ at_sequence quoted 37 at.0 (inr refl))
no_element quoted kind seen text rest whole (quote k q h) = inr ((λ i. element_len (q i) (sym whole i)) ∙ ap (λ t. element_len true (t ++ rest)) h)

two_or_more : (x : List ℕ) (n : ℕ) → n ≡ (if starts x (codes "~") then 3 else 2) → 2 ≤ n
two_or_more x n n_is = subst (λ m. 2 ≤ m) (sym n_is) (by (starts x (codes "~")))
  where
    by : (v : Bool) → 2 ≤ (if v then 3 else 2)
    by true = omega arith
    by false = omega arith

opener_longer : (c s : ℕ) (x : List ℕ) (n : ℕ) → n ≡ (if starts x (codes "~") then 3 else 2) → (longer left : List ℕ) → longer ++ left ≡ s ∷ 123 ∷ x → n < length longer → (longer ≡ c ∷ 123 ∷ []) ⊎ (longer ≡ c ∷ 123 ∷ 126 ∷ []) → ⊥
opener_longer c s x n n_is longer left whole lt (inl e) = omega (arith, two_or_more x n n_is, ap length e, lt)
opener_longer c s x n n_is longer left whole lt (inr e) =
    let x_is : x ≡ 126 ∷ left = sym (ap (drop 2) (sym (ap (λ t. t ++ left) e) ∙ whole)) in
    let three : n ≡ 3 = n_is ∙ ap (λ l. if starts l (codes "~") then 3 else 2) x_is in
    omega (arith, three, ap length e, lt)

-- LITERAL TEXT is found if elements come and then none
module _ (quoted : Bool) (opens : List Opener) (dot : Bool) (here : context opens ≡ Template quoted) where
  pub lit_found : (seen : List ℕ) (n : ℕ) → n ≤ length seen → 0 < n → are_elements quoted 0 (take n seen) (drop n seen) ≡ true → element_len quoted (drop n seen) ≡ None → Finds opens dot seen Lit n
  lit_found seen n within some elements ends =
      let len = length-take-le n seen within in
      let is : IsLiteral quoted (take n seen) (drop n seen) = (omega arith, elements) in
      record {
        within = within;
        some = some;
        longest = record {
          whole = take-append-drop n seen;
          spelled = of_template quoted opens dot Lit (take n seen) (drop n seen) here is;
          longest = λ other longer left whole lt h. by other longer left whole lt (in_template quoted opens dot other longer left here h);
        };
      }
    where
      elsewhere : element_len quoted seen ≡ None → ⊥
      elsewhere none = no_lit quoted seen (take n seen) (drop n seen) none (take-append-drop n seen) (omega (arith, some, length-take-le n seen within), elements)

      by : (other : Kind) (longer left : List ℕ) → longer ++ left ≡ seen → length (take n seen) < length longer → Way quoted other longer left → ⊥
      by other longer left whole lt (lit k h) = no_longer_lit quoted 0 (take n seen) (drop n seen) longer left elements ends (whole ∙ sym (take-append-drop n seen)) lt h.1
      by other longer left whole lt (interp k h) = elsewhere (⊎_elim (λ l. absurd (clash (sym k ∙ l))) (λ e. e) (no_element quoted other seen longer left whole (interp k h)))
        where
          clash : InterpOpen ≡ Lit → ⊥
          clash e = cc
      by other longer left whole lt (control k h) = elsewhere (⊎_elim (λ l. absurd (clash (sym k ∙ l))) (λ e. e) (no_element quoted other seen longer left whole (control k h)))
        where
          clash : ControlOpen ≡ Lit → ⊥
          clash e = cc
      by other longer left whole lt (quote k q h) = elsewhere (⊎_elim (λ l. absurd (clash (sym k ∙ l))) (λ e. e) (no_element quoted other seen longer left whole (quote k q h)))
        where
          clash : QuoteClose ≡ Lit → ⊥
          clash e = cc

  none_longer : (s : ℕ) (x : List ℕ) (n : ℕ) → (s ≡ 36) ⊎ (s ≡ 37) → n ≡ (if starts x (codes "~") then 3 else 2) → (other : Kind) (longer left : List ℕ) → longer ++ left ≡ s ∷ 123 ∷ x → n < length longer → Way quoted other longer left → ⊥
  none_longer s x n sign n_is other longer left whole lt (lit k h) = no_lit quoted (s ∷ 123 ∷ x) longer left (at_sequence quoted s x sign) whole h
  none_longer s x n sign n_is other longer left whole lt (interp k h) = opener_longer 36 s x n n_is longer left whole lt h
  none_longer s x n sign n_is other longer left whole lt (control k h) = opener_longer 37 s x n n_is longer left whole lt h
  none_longer s x n sign n_is other longer left whole lt (quote k q h) = absurd (omega (arith, two_or_more x n n_is, ap length h, lt))

  sequence_so : (s : ℕ) (kind : Kind) → ((text rest : List ℕ) → (text ≡ s ∷ 123 ∷ []) ⊎ (text ≡ s ∷ 123 ∷ 126 ∷ []) → IsTemplateText quoted kind text rest) → (s ≡ 36) ⊎ (s ≡ 37) → (seen x : List ℕ) → seen ≡ s ∷ 123 ∷ x → (long : Bool) → starts x (codes "~") ≡ long → Finds opens dot seen kind (if long then 3 else 2)
  sequence_so s kind of sign seen x is true tail =
      let x_is : x ≡ 126 ∷ drop 1 x = starts_is x (126 ∷ []) tail in
      let seen_is : seen ≡ (s ∷ 123 ∷ 126 ∷ []) ++ drop 1 x = is ∙ ap (λ l. s ∷ 123 ∷ l) x_is in
      subst (λ l. Finds opens dot l kind 3) (sym seen_is) (record {
        within = omega arith;
        some = omega arith;
        longest = record {
          whole = refl;
          spelled = of_template quoted opens dot kind _ _ here (of (s ∷ 123 ∷ 126 ∷ []) (drop 1 x) (inr refl));
          longest = λ other longer left whole lt h. none_longer s (126 ∷ drop 1 x) 3 sign refl other longer left whole lt (in_template quoted opens dot other longer left here h);
        };
      })
  sequence_so s kind of sign seen x is false tail =
      subst (λ l. Finds opens dot l kind 2) (sym is) (record {
        within = omega arith;
        some = omega arith;
        longest = record {
          whole = refl;
          spelled = of_template quoted opens dot kind _ _ here (of (s ∷ 123 ∷ []) x (inl refl));
          longest = λ other longer left whole lt h. none_longer s x 2 sign (ap (λ v. if v then 3 else 2) (sym tail)) other longer left whole lt (in_template quoted opens dot other longer left here h);
        };
      })

  pub interp_found : (seen : List ℕ) → starts seen (codes "${") ≡ true → Finds opens dot seen InterpOpen (if starts (drop 2 seen) (codes "~") then 3 else 2)
  interp_found seen h = sequence_so 36 InterpOpen (λ text rest e. e) (inl refl) seen (drop 2 seen) (starts_is seen (codes "${") h) (starts (drop 2 seen) (codes "~")) refl

  pub control_found : (seen : List ℕ) → starts seen (codes "%{") ≡ true → Finds opens dot seen ControlOpen (if starts (drop 2 seen) (codes "~") then 3 else 2)
  control_found seen h = sequence_so 37 ControlOpen (λ text rest e. e) (inr refl) seen (drop 2 seen) (starts_is seen (codes "%{") h) (starts (drop 2 seen) (codes "~")) refl

  pub quote_found : (seen : List ℕ) → quoted ≡ true → starts seen (codes "\"") ≡ true → Finds opens dot seen QuoteClose 1
  quote_found seen in_quotes h =
      let seen_is : seen ≡ 34 ∷ drop 1 seen = starts_is seen (codes "\"") h in
      subst (λ l. Finds opens dot l QuoteClose 1) (sym seen_is) (record {
        within = omega arith;
        some = omega arith;
        longest = record {
          whole = refl;
          spelled = of_template quoted opens dot QuoteClose (34 ∷ []) (drop 1 seen) here (subst (λ q. IsTemplateText q QuoteClose (34 ∷ []) (drop 1 seen)) (sym in_quotes) refl);
          longest = λ other longer left whole lt h. by (drop 1 seen) other longer left whole lt (in_template quoted opens dot other longer left here h);
        };
      })
    where
      by : (x : List ℕ) (other : Kind) (longer left : List ℕ) → longer ++ left ≡ 34 ∷ x → 1 < length longer → Way quoted other longer left → ⊥
      by x other longer left whole lt (lit k h) = no_lit quoted (34 ∷ x) longer left (ap (λ q. element_len q (34 ∷ x)) in_quotes) whole h
      by x other longer left whole lt (interp k h) = let at = sequence_at 36 longer left (34 ∷ x) h whole in let e : 34 ≡ 36 = ap (λ l. get_or l 0 0) at.1 in omega (arith, e)
      by x other longer left whole lt (control k h) = let at = sequence_at 37 longer left (34 ∷ x) h whole in let e : 34 ≡ 37 = ap (λ l. get_or l 0 0) at.1 in omega (arith, e)
      by x other longer left whole lt (quote k q h) = omega (arith, ap length h, lt)

  pub nothing_found : (seen : List ℕ) → element_len quoted seen ≡ None → starts seen (codes "${") ≡ false → starts seen (codes "%{") ≡ false → (quoted ≡ true → starts seen (codes "\"") ≡ false) → HasNone opens dot seen
  nothing_found seen none no_interp no_control no_quote kind text rest whole h = by (in_template quoted opens dot kind text rest here h)
    where
      clash : (front : List ℕ) (x : List ℕ) → seen ≡ front ++ x → starts seen front ≡ false → ⊥
      clash front x e not_so = let so = starts_so front x in let f : starts seen front ≡ true = ap (λ l. starts l front) e ∙ so in absurd (cc)

      by : Way quoted kind text rest → ⊥
      by (lit k h) = no_lit quoted seen text rest none whole h
      by (interp k h) = let at = sequence_at 36 text rest seen h whole in clash (codes "${") at.0 at.1 no_interp
      by (control k h) = let at = sequence_at 37 text rest seen h whole in clash (codes "%{") at.0 at.1 no_control
      by (quote k q h) = clash (codes "\"") rest (sym whole ∙ ap (λ t. t ++ rest) h) (no_quote q)

-- where there is no element, the text ends or has an ASCII byte
stops : (d s o q : Bool) (e : Option ℕ) → (if d then Some 3 else (if s then (if o then None else Some 1) else (if q then e else Some 1))) ≡ None → (s ≡ true) ⊎ (q ≡ true)
stops true s o q e h = absurd (cc)
stops false true o q e h = inl refl
stops false false o true e h = inr refl
stops false false o false e h = absurd (cc)

sign_ascii : (b : ℕ) → is_dollar_or_percent b ≡ true → b < 128
sign_ascii b h = grind (arith, nat_tests)

end_ascii : (quoted : Bool) (b : ℕ) (s : Bool) → (quoted && ((b == 34) || (b == 92) || (b == 10) || ((b == 13) && s))) ≡ true → b < 128
end_ascii quoted b s h = grind (arith, nat_tests)

none_ascii : (quoted : Bool) (b : ℕ) (after : List ℕ) → element_len quoted (b ∷ after) ≡ None → b < 128
none_ascii quoted b after none =
    ⊎_elim (λ e. sign_ascii b e) (λ e. end_ascii quoted b (starts after (codes "\n")) e)
    (stops (starts (b ∷ after) (codes "$${") || starts (b ∷ after) (codes "%%{")) (is_dollar_or_percent b) (starts after (codes "{")) (quoted && ends_quoted b after) (escape_len (b ∷ after)) none)

pub lit_boundary : (quoted : Bool) (seen : List ℕ) (n : ℕ) → n ≤ length seen → element_len quoted (drop n seen) ≡ None → IsCharBoundary seen n
lit_boundary quoted [] zero within none = (omega arith, λ lt. absurd (omega arith))
lit_boundary quoted [] (suc n) within none = absurd (omega arith)
lit_boundary quoted (b ∷ seen) zero within none = IsCharBoundary-before_ascii (b ∷ seen) 0 (omega arith) (none_ascii quoted b seen none)
lit_boundary quoted (b ∷ seen) (suc n) within none = let more = lit_boundary quoted seen n (omega arith) none in (omega arith, λ lt. more.1 (omega arith))

pub quote_boundary : (seen : List ℕ) → IsUtf8 seen → starts seen (codes "\"") ≡ true → IsCharBoundary seen 1
quote_boundary seen utf8 h =
    let seen_is : seen ≡ 34 ∷ drop 1 seen = starts_is seen (codes "\"") h in
    let first : get_or seen 0 0 ≡ 34 = ap (λ l. get_or l 0 0) seen_is in
    IsCharBoundary-after_ascii seen 0 utf8 (omega (arith, ap length seen_is)) (omega (arith, first))

pub sequence_boundary : (s : ℕ) (seen : List ℕ) (n : ℕ) → IsUtf8 seen → starts seen (s ∷ 123 ∷ []) ≡ true → n ≡ (if starts (drop 2 seen) (codes "~") then 3 else 2) → IsCharBoundary seen n
sequence_boundary s seen n utf8 h n_is = subst (IsCharBoundary seen) (sym n_is) (by (starts (drop 2 seen) (codes "~")) refl)
  where
    seen_is : seen ≡ s ∷ 123 ∷ drop 2 seen
    seen_is = starts_is seen (s ∷ 123 ∷ []) h

    second : get_or seen 1 0 ≡ 123
    second = ap (λ l. get_or l 1 0) seen_is

    by : (v : Bool) → starts (drop 2 seen) (codes "~") ≡ v → IsCharBoundary seen (if v then 3 else 2)
    by true e =
        let tail : drop 2 seen ≡ 126 ∷ drop 1 (drop 2 seen) = starts_is (drop 2 seen) (codes "~") e in
        let third : get_or seen 2 0 ≡ 126 = ap (λ l. get_or l 2 0) seen_is ∙ ap (λ l. get_or l 0 0) tail in
        IsCharBoundary-after_ascii seen 2 utf8 (omega (arith, ap length seen_is, ap length tail)) (omega (arith, third))
    by false e = IsCharBoundary-after_ascii seen 1 utf8 (omega (arith, ap length seen_is)) (omega (arith, second))

pub way_template : (quoted : Bool) (kind : Kind) (text rest : List ℕ) → Way quoted kind text rest → is_template kind ≡ true
way_template quoted kind text rest (lit k h) = ap is_template k
way_template quoted kind text rest (interp k h) = ap is_template k
way_template quoted kind text rest (control k h) = ap is_template k
way_template quoted kind text rest (quote k q h) = ap is_template k
