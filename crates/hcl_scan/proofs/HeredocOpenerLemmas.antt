-- Openers of heredocs at the front of a text.
use Rattle.std.proofs.Common.{◌≡◌, ℕ, ◌+◌, ◌<◌, ◌≤◌, ◌&&◌, ◌==◌, Bool, true, false, cond, List, [], ◌∷◌, ◌++◌, length, take, drop, get_or, ◌⊎◌, inl, inr, ⊎_elim, refl, sym, ap, subst, ◌∙◌, arith, IsUtf8, length-append, append_assoc, length-take-le}
use Rattle.std.specs.Str.{IsCharBoundary}
use Rattle.std.proofs.lemmas.Str.{IsCharBoundary-after_ascii}
use Rattle.std.proofs.lemmas.List.{take-append-drop}
use Rattle.std.proofs.lemmas.Bool.Decides.{nat_tests}
use Rattle.hcl_tokens.specs.Spelling.{IsIdent, IsNewline, IsHeredocOpen, starts}
use Rattle.hcl_scan.specs.Inner.Found.{IsLongestFront, HasNoFront, IsMarker, heredoc_mark_len}
use Rattle.hcl_scan.proofs.WordLemmas.{ident_word, is_word, begins_word}
use Rattle.hcl_scan.proofs.NumeralLemmas.{first_after, inside, all_at}
use Rattle.hcl_scan.proofs.LongestFrontLemmas.{longest_is, front_dropped}
use Rattle.hcl_scan.proofs.CommentTextLemmas.{starts_split}

-- a marker is all of the identifier at the front
newline_head : (end left : List ℕ) → IsNewline end → is_word (get_or (end ++ left) 0 0) ≡ false
newline_head end left (inl e) = ap (λ l. is_word (get_or (l ++ left) 0 0)) e
newline_head end left (inr e) = ap (λ l. is_word (get_or (l ++ left) 0 0)) e

below_or_same : (a b : ℕ) → a ≤ b → (a < b) ⊎ (a ≡ b)
below_or_same a b h = grind arith

marker_len : (text marker end left : List ℕ) (n : ℕ) → IsLongestFront IsIdent text n → IsIdent marker → IsNewline end → marker ++ (end ++ left) ≡ text → length marker ≡ n
marker_len text marker end left n f is newline whole = ⊎_elim short (λ e. e) (below_or_same (length marker) n (f.longest marker (end ++ left) whole is))
  where
    short : length marker < n → length marker ≡ n
    short lt =
        let len = length-take-le n text f.within in
        let word = all_at is_word (take n text) (length marker) (omega (arith, len)) (ident_word (take n text) f.formed).words in
        let byte : get_or (take n text) (length marker) 0 ≡ get_or (end ++ left) 0 0 =
        sym (inside (take n text) (drop n text) text (length marker) (take-append-drop n text) (omega (arith, len))) ∙ first_after marker (end ++ left) text whole in
        let never : is_word (get_or (take n text) (length marker) 0) ≡ false = ap is_word byte ∙ newline_head end left newline in
        absurd (cc)

-- the text that a marker and its newline leave
pub record Marked (text front left : List ℕ) (n : ℕ) : Type 0 where
  pub end : List ℕ
  pub newline : IsNewline end
  pub there : end ++ left ≡ drop n text
  pub size : length front ≡ n + length end

marked : (text front left : List ℕ) (n : ℕ) → IsLongestFront IsIdent text n → IsMarker front → front ++ left ≡ text → Marked text front left n
marked text front left n f is whole =
    let split : is.0 ++ (is.1 ++ left) ≡ text = sym (append_assoc is.0 is.1 left) ∙ ap (λ l. l ++ left) (sym is.4) ∙ whole in
    let len = marker_len text is.0 is.1 left n f is.2 is.3 split in
    record {
      end = is.1;
      newline = is.3;
      there = sym (front_dropped is.0 (is.1 ++ left) text split) ∙ ap (λ k. drop k text) len;
      size = omega (arith, ap length is.4, length-append is.0 is.1, len);
    }

pub marker_found : (text after_name : List ℕ) (n k : ℕ) → after_name ≡ drop n text → IsLongestFront IsIdent text n → IsLongestFront IsNewline after_name k → IsLongestFront IsMarker text (n + k)
marker_found text after_name n k e f g = longest_is IsMarker text front rest (n + k) len whole (take n text, take k after_name, f.formed, g.formed, refl) longest
  where
    front : List ℕ
    front = take n text ++ take k after_name

    rest : List ℕ
    rest = drop k after_name

    len : n + k ≡ length front
    len = omega (arith, length-append (take n text) (take k after_name), length-take-le n text f.within, length-take-le k after_name g.within)

    whole : front ++ rest ≡ text
    whole = append_assoc (take n text) (take k after_name) rest ∙ ap (λ l. take n text ++ l) (take-append-drop k after_name ∙ e) ∙ take-append-drop n text

    longest : (longer left : List ℕ) → longer ++ left ≡ text → IsMarker longer → length longer ≤ length front
    longest longer left same is =
        let m = marked text longer left n f is same in
        let most = g.longest m.end left (m.there ∙ sym e) m.newline in
        omega (arith, m.size, most, len)

pub marker_none : (text after_name : List ℕ) (n : ℕ) → after_name ≡ drop n text → IsLongestFront IsIdent text n → HasNoFront IsNewline after_name → HasNoFront IsMarker text
marker_none text after_name n e f none front left same is = let m = marked text front left n f is same in none m.end left (m.there ∙ sym e) m.newline

-- the text that an opener leaves
pub record Opened (seen text rest : List ℕ) : Type 0 where
  pub inner : List ℕ
  pub is : IsMarker inner
  pub there : inner ++ rest ≡ drop (heredoc_mark_len seen) seen
  pub size : length text ≡ heredoc_mark_len seen + length inner
  pub some : 0 < heredoc_mark_len seen

marker_head : (marker after : List ℕ) → IsIdent marker → (get_or (marker ++ after) 0 0 == 45) ≡ false
marker_head marker after is = let w = ident_word marker is in ap (λ l. get_or (l ++ after) 0 0 == 45) w.whole ∙ no_minus w.first w.begins
  where
    no_minus : (b : ℕ) → begins_word b ≡ true → (b == 45) ≡ false
    no_minus b h = grind (arith, nat_tests)

plain_len : (after : List ℕ) → (get_or after 0 0 == 45) ≡ false → heredoc_mark_len (60 ∷ 60 ∷ after) ≡ 2
plain_len [] h = refl
plain_len (b ∷ after) h = by (b == 45) (starts after []) h
  where
    by : (v w : Bool) → v ≡ false → ◌≡◌ {A = ℕ} (cond (v && w) 3 2) 2
    by true w e = cc
    by false w e = refl

opened : (seen text rest : List ℕ) → text ++ rest ≡ seen → IsHeredocOpen text → Opened seen text rest
opened seen text rest whole is = ⊎_elim plain dashed is.3
  where
    inner : List ℕ
    inner = is.1 ++ is.2

    is_marker : IsMarker inner
    is_marker = (is.1, is.2, is.4, is.5, refl)

    shape : (dash : List ℕ) → is.0 ≡ dash → text ≡ (60 ∷ 60 ∷ []) ++ (dash ++ inner)
    shape dash e = is.6 ∙ append_assoc ((60 ∷ 60 ∷ []) ++ is.0) is.1 is.2 ∙ append_assoc (60 ∷ 60 ∷ []) is.0 inner ∙ ap (λ d. (60 ∷ 60 ∷ []) ++ (d ++ inner)) e

    seen_is : (dash : List ℕ) → is.0 ≡ dash → seen ≡ (60 ∷ 60 ∷ []) ++ (dash ++ (inner ++ rest))
    seen_is dash e = sym whole ∙ ap (λ l. l ++ rest) (shape dash e) ∙ ap (λ l. 60 ∷ 60 ∷ l) (append_assoc dash inner rest)

    plain : is.0 ≡ [] → Opened seen text rest
    plain e =
        let len : heredoc_mark_len seen ≡ 2 = ap heredoc_mark_len (seen_is [] e) ∙ plain_len (inner ++ rest) (ap (λ l. get_or l 0 0 == 45) (append_assoc is.1 is.2 rest) ∙ marker_head is.1 (is.2 ++ rest) is.4) in
        record {
          inner = inner;
          is = is_marker;
          there = sym (ap (λ k. drop k seen) len ∙ ap (drop 2) (seen_is [] e));
          size = omega (arith, len, ap length (shape [] e));
          some = omega (arith, len);
        }

    dashed : is.0 ≡ 45 ∷ [] → Opened seen text rest
    dashed e =
        let len : heredoc_mark_len seen ≡ 3 = ap heredoc_mark_len (seen_is (45 ∷ []) e) in
        record {
          inner = inner;
          is = is_marker;
          there = sym (ap (λ k. drop k seen) len ∙ ap (drop 3) (seen_is (45 ∷ []) e));
          size = omega (arith, len, ap length (shape (45 ∷ []) e));
          some = omega (arith, len);
        }

-- the text before the marker
abbrev mark_size : Bool → Bool → ℕ
mark_size dashed plain = cond dashed 3 (cond plain 2 0)

pub mark_split : (seen : List ℕ) → (0 < heredoc_mark_len seen) → (seen ≡ 60 ∷ 60 ∷ 45 ∷ drop 3 seen) × (heredoc_mark_len seen ≡ 3) ⊎ (seen ≡ 60 ∷ 60 ∷ drop 2 seen) × (heredoc_mark_len seen ≡ 2)
mark_split seen some = by (starts seen (60 ∷ 60 ∷ 45 ∷ [])) (starts seen (60 ∷ 60 ∷ [])) refl refl some
  where
    split : (front : List ℕ) → starts seen front ≡ true → seen ≡ front ++ drop (length front) seen
    split front h = let s = starts_split seen front h in s.1 ∙ ap (λ l. front ++ l) (sym (front_dropped front s.0 seen (sym s.1)))

    by : (v w : Bool) → starts seen (60 ∷ 60 ∷ 45 ∷ []) ≡ v → starts seen (60 ∷ 60 ∷ []) ≡ w → 0 < mark_size v w → (seen ≡ 60 ∷ 60 ∷ 45 ∷ drop 3 seen) × (mark_size v w ≡ 3) ⊎ (seen ≡ 60 ∷ 60 ∷ drop 2 seen) × (mark_size v w ≡ 2)
    by true w e e' h = inl (split (60 ∷ 60 ∷ 45 ∷ []) e, refl)
    by false true e e' h = inr (split (60 ∷ 60 ∷ []) e', refl)
    by false false e e' h = absurd (omega (arith, h))

pub mark_boundary : (seen : List ℕ) (n : ℕ) → IsUtf8 seen → n ≡ heredoc_mark_len seen → 0 < n → IsCharBoundary seen n
mark_boundary seen n utf8 e some = subst (IsCharBoundary seen) (sym e) (⊎_elim three two (mark_split seen (omega (arith, e))))
  where
    three : (seen ≡ 60 ∷ 60 ∷ 45 ∷ drop 3 seen) × (heredoc_mark_len seen ≡ 3) → IsCharBoundary seen (heredoc_mark_len seen)
    three p = subst (IsCharBoundary seen) (sym p.1) (IsCharBoundary-after_ascii seen 2 utf8 (omega (arith, ap length p.0)) (omega (arith, ap (λ l. get_or l 2 0) p.0)))

    two : (seen ≡ 60 ∷ 60 ∷ drop 2 seen) × (heredoc_mark_len seen ≡ 2) → IsCharBoundary seen (heredoc_mark_len seen)
    two p = subst (IsCharBoundary seen) (sym p.1) (IsCharBoundary-after_ascii seen 1 utf8 (omega (arith, ap length p.0)) (omega (arith, ap (λ l. get_or l 1 0) p.0)))

pub opener_found : (seen after : List ℕ) (mark n : ℕ) → mark ≡ heredoc_mark_len seen → 0 < mark → after ≡ drop mark seen → IsLongestFront IsMarker after n → IsLongestFront IsHeredocOpen seen (mark + n)
opener_found seen after mark n e some e' f = ⊎_elim dashed plain (mark_split seen (omega (arith, e)))
  where
    marker : List ℕ
    marker = take n after

    len : length marker ≡ n
    len = length-take-le n after f.within

    same : after ≡ drop (heredoc_mark_len seen) seen
    same = e' ∙ ap (λ k. drop k seen) e

    opens : (dash : List ℕ) → ((dash ≡ []) ⊎ (dash ≡ 45 ∷ [])) → IsHeredocOpen ((60 ∷ 60 ∷ []) ++ (dash ++ marker))
    opens dash d =
        let m : IsMarker marker = f.formed in
        (dash, m.0, m.1, d, m.2, m.3, ap (λ l. (60 ∷ 60 ∷ []) ++ (dash ++ l)) m.4 ∙ sym (append_assoc ((60 ∷ 60 ∷ []) ++ dash) m.0 m.1 ∙ append_assoc (60 ∷ 60 ∷ []) dash (m.0 ++ m.1)))

    by : (dash : List ℕ) → ((dash ≡ []) ⊎ (dash ≡ 45 ∷ [])) → seen ≡ (60 ∷ 60 ∷ []) ++ (dash ++ after) → mark ≡ 2 + length dash → IsLongestFront IsHeredocOpen seen (mark + n)
    by dash d seen_is mark_is =
        longest_is IsHeredocOpen seen ((60 ∷ 60 ∷ []) ++ (dash ++ marker)) (drop n after) (mark + n)
        (omega (arith, len, mark_is, length-append dash marker))
        (ap (λ l. 60 ∷ 60 ∷ l) (append_assoc dash marker (drop n after) ∙ ap (λ l. dash ++ l) (take-append-drop n after)) ∙ sym seen_is)
        (opens dash d)
        (λ longer left whole is.
        let o = opened seen longer left whole is in
        let most = f.longest o.inner left (o.there ∙ sym same) o.is in
        omega (arith, o.size, most, e, len, mark_is, length-append dash marker))

    dashed : (seen ≡ 60 ∷ 60 ∷ 45 ∷ drop 3 seen) × (heredoc_mark_len seen ≡ 3) → IsLongestFront IsHeredocOpen seen (mark + n)
    dashed p = by (45 ∷ []) (inr refl) (p.0 ∙ ap (λ l. 60 ∷ 60 ∷ 45 ∷ l) (sym (same ∙ ap (λ k. drop k seen) p.1))) (omega (arith, e, p.1))

    plain : (seen ≡ 60 ∷ 60 ∷ drop 2 seen) × (heredoc_mark_len seen ≡ 2) → IsLongestFront IsHeredocOpen seen (mark + n)
    plain p = by [] (inl refl) (p.0 ∙ ap (λ l. 60 ∷ 60 ∷ l) (sym (same ∙ ap (λ k. drop k seen) p.1))) (omega (arith, e, p.1))

pub opener_none : (seen after : List ℕ) (mark : ℕ) → mark ≡ heredoc_mark_len seen → after ≡ drop mark seen → HasNoFront IsMarker after → HasNoFront IsHeredocOpen seen
opener_none seen after mark e e' none text rest whole is = let o = opened seen text rest whole is in none o.inner rest (o.there ∙ ap (λ k. drop k seen) (sym e) ∙ sym e') o.is
