-- Identifiers at the front of a text, character by character.
use Rattle.std.proofs.Common.{◌≡◌, ℕ, if◌then◌else◌, ◌+◌, ◌-◌, ◌<◌, ◌≤◌, ◌&&◌, ◌||◌, ◌==◌, Bool, true, false, List, [], ◌∷◌, ◌++◌, length, take, drop, get_or, get_or-drop, ◌⊎◌, ⊎_elim, inl, inr, refl, sym, ap, subst, ◌∙◌, arith, IsUtf8, length-append, length-drop, append_assoc, append-nil, length-take-le}
use Rattle.std.specs.Prelude.{encode_utf8, encode_utf8_all}
use Rattle.std.specs.List.{list_all, prefix_len}
use Rattle.std.specs.Str.{IsCharBoundary, all_scalars}
use Rattle.std.specs.Char.{is_ascii_alphabetic, is_ascii_alphanumeric, len_utf8}
use Rattle.std.proofs.lemmas.Str.{encode_same, length-encode, len_utf8_bounds, encodes-append, encode_ascii, encodes_same, IsUtf8-take, IsUtf8-drop, IsCharBoundary-past_char}
use Rattle.std.proofs.lemmas.List.{take-append-drop, drop_all}
use Rattle.std.proofs.lemmas.List.Sums.{prefix_len_stops}
use Rattle.std.proofs.lemmas.List.Folds.{list_all-append}
use Rattle.std.proofs.Math.Seq.{take-append_seam, take-append-add}
use Rattle.std.proofs.lemmas.Bool.Decides.{nat_tests}
use Rattle.unicode_ident.specs.Ident.{is_xid_start}
use Rattle.unicode_ident.proofs.IdentLemmas.{is_xid_start-ascii, is_xid_continue-ascii, is_xid_start-is_xid_continue}
use Rattle.hcl_tokens.specs.Spelling.{IsIdent, are_ident, starts_ident, continues_ident}
use Rattle.hcl_tokens.specs.SideBySide.{may_begin_ident}
use Rattle.hcl_scan.specs.Inner.Found.{IsLongestFront, HasNoFront, BeginsWith, FirstChar, BeginsWithout, AreContinuing, continues_ascii}
use Rattle.hcl_tokens.proofs.BooleanLemmas.{and_true}
use Rattle.hcl_scan.proofs.TextCutLemmas.{run_cut}
use Rattle.hcl_scan.proofs.LongestFrontLemmas.{run_passes}
use Rattle.hcl_scan.proofs.WordLemmas.{all_to}

-- ASCII bytes
pub ascii_continues : (b : ℕ) → b < 128 → continues_ident b ≡ (is_ascii_alphanumeric b || (b == 95) || (b == 45))
ascii_continues b lt = ap (λ v. v || (b == 45)) (is_xid_continue-ascii b lt)

pub ascii_starts : (b : ℕ) → b < 128 → starts_ident b ≡ (is_ascii_alphabetic b || (b == 95))
ascii_starts b lt = ap (λ v. v || (b == 95)) (is_xid_start-ascii b lt)

ascii_front : (text : List ℕ) → 0 < length text → get_or text 0 0 < 128 → text ≡ encode_utf8 (get_or text 0 0) ++ drop 1 text
ascii_front [] some lt = absurd (omega arith)
ascii_front (b ∷ text) some lt = sym (ap (λ l. l ++ text) (encode_ascii b lt))

pub ascii_with : (test : ℕ → Bool) (text : List ℕ) → 0 < length text → get_or text 0 0 < 128 → test (get_or text 0 0) ≡ true → BeginsWith test text
ascii_with test text some lt h = record { first = get_or text 0 0; rest = drop 1 text; passes = h; whole = ascii_front text some lt }

pub ascii_without : (test : ℕ → Bool) (text : List ℕ) → 0 < length text → get_or text 0 0 < 128 → test (get_or text 0 0) ≡ false → BeginsWithout test text
ascii_without test text some lt h = inr (get_or text 0 0, drop 1 text, h, ascii_front text some lt)

some_of : (n : ℕ) → (n == 0) ≡ false → 0 < n
some_of n h = grind (arith, nat_tests)

-- by the first byte, as the scanner reads it
module _ (text bytes : List ℕ) (same : bytes ≡ text) (some : (length bytes == 0) ≡ false) (lt : get_or bytes 0 0 < 128) where
  some_text : 0 < length text
  some_text = subst (λ l. 0 < length l) same (some_of (length bytes) some)

  low : get_or text 0 0 < 128
  low = subst (λ l. get_or l 0 0 < 128) same lt

  starts_is : (r : Bool) → r ≡ (is_ascii_alphabetic (get_or bytes 0 0) || (get_or bytes 0 0 == 95)) → starts_ident (get_or text 0 0) ≡ r
  starts_is r e = ap (λ l. starts_ident (get_or l 0 0)) (sym same) ∙ ascii_starts (get_or bytes 0 0) lt ∙ sym e

  pub starts_found : (r : Bool) → r ≡ (is_ascii_alphabetic (get_or bytes 0 0) || (get_or bytes 0 0 == 95)) → r ≡ true → BeginsWith starts_ident text
  starts_found r e h = ascii_with starts_ident text some_text low (starts_is r e ∙ h)

  pub starts_none : (r : Bool) → r ≡ (is_ascii_alphabetic (get_or bytes 0 0) || (get_or bytes 0 0 == 95)) → r ≡ false → BeginsWithout starts_ident text
  starts_none r e h = ascii_without starts_ident text some_text low (starts_is r e ∙ h)

pub starts_continues : (c : ℕ) → starts_ident c ≡ true → continues_ident c ≡ true
starts_continues c h = by (is_xid_start c) refl h
  where
    by : (v : Bool) → is_xid_start c ≡ v → (v || (c == 95)) ≡ true → continues_ident c ≡ true
    by true e k = ap (λ b. b || (c == 45)) (is_xid_start-is_xid_continue c e)
    by false e k = let c_is : c ≡ 95 = grind (arith, nat_tests) in ap continues_ident c_is ∙ ap (λ b. b || (95 == 45)) (is_xid_continue-ascii 95 (omega arith))

-- a front of continuing characters before another character is the longest
no_longer : (cs ds rest left : List ℕ) → list_all continues_ident ds ≡ true → BeginsWithout continues_ident rest → encode_utf8_all ds ++ left ≡ encode_utf8_all cs ++ rest → length (encode_utf8_all ds) ≤ length (encode_utf8_all cs)
no_longer cs [] rest left h stop whole = omega arith
no_longer [] (d ∷ ds) rest left h (inl is) whole =
    let len = ap length (whole ∙ is) in
    absurd (omega (arith, len, length-append (encode_utf8 d ++ encode_utf8_all ds) left, length-append (encode_utf8 d) (encode_utf8_all ds), length-encode d, (len_utf8_bounds d).0))
no_longer [] (d ∷ ds) rest left h (inr stop) whole =
    let same = encode_same d stop.0 (encode_utf8_all ds ++ left) stop.1 (sym (append_assoc (encode_utf8 d) (encode_utf8_all ds) left) ∙ whole ∙ stop.3) in
    let yes : continues_ident d ≡ true = (and_true (continues_ident d) (list_all continues_ident ds) h).0 in
    let never : continues_ident d ≡ false = ap continues_ident same.0 ∙ stop.2 in
    absurd (cc)
no_longer (c ∷ cs) (d ∷ ds) rest left h stop whole =
    let same = encode_same d c (encode_utf8_all ds ++ left) (encode_utf8_all cs ++ rest) (sym (append_assoc (encode_utf8 d) (encode_utf8_all ds) left) ∙ whole ∙ append_assoc (encode_utf8 c) (encode_utf8_all cs) rest) in
    let le = no_longer cs ds rest left (and_true (continues_ident d) (list_all continues_ident ds) h).1 stop same.1 in
    omega (arith, le, length-append (encode_utf8 d) (encode_utf8_all ds), length-append (encode_utf8 c) (encode_utf8_all cs), ap (λ x. length (encode_utf8 x)) same.0)

no_longer_run : (text rest longer left : List ℕ) → AreContinuing text → BeginsWithout continues_ident rest → longer ++ left ≡ text ++ rest → AreContinuing longer → length longer ≤ length text
no_longer_run text rest longer left t stop whole l =
    let e : encode_utf8_all l.0 ++ left ≡ encode_utf8_all t.0 ++ rest = ap (λ x. x ++ left) (sym l.2) ∙ whole ∙ ap (λ x. x ++ rest) t.2 in
    let le = no_longer t.0 l.0 rest left l.1 stop e in
    omega (arith, le, ap length l.2, ap length t.2)

ident_continues : (text : List ℕ) → IsIdent text → AreContinuing text
ident_continues text is = (is.0, by is.0 is.2, is.3)
  where
    by : (cs : List ℕ) → are_ident cs ≡ true → list_all continues_ident cs ≡ true
    by [] h = refl
    by (c ∷ cs) h = let parts = and_true (starts_ident c) (list_all continues_ident cs) h in λ i. starts_continues c parts.0 i && parts.1 i

-- one more character
more : (front cs : List ℕ) (c : ℕ) → list_all continues_ident cs ≡ true → front ≡ encode_utf8_all cs → continues_ident c ≡ true → AreContinuing (front ++ encode_utf8 c)
more front cs c all is passes =
    let both : list_all continues_ident (cs ++ c ∷ []) ≡ true = list_all-append continues_ident cs (c ∷ []) ∙ (λ i. all i && (passes i && true)) in
    (cs ++ c ∷ [], both, ap (λ l. l ++ encode_utf8 c) is ∙ sym (encodes-append cs (c ∷ []) ∙ ap (λ l. encode_utf8_all cs ++ l) (append-nil (encode_utf8 c))))

pub record Continued (text : List ℕ) (n : ℕ) : Type 0 where
  pub boundary : IsCharBoundary text n
  pub continuing : AreContinuing (take n text)

ascii_only : (b : ℕ) → continues_ascii b ≡ true → b < 128
ascii_only b h = grind (arith, nat_tests)

encoded : (cs : List ℕ) → list_all continues_ascii cs ≡ true → cs ≡ encode_utf8_all cs
encoded [] h = refl
encoded (c ∷ cs) h =
    let parts = and_true (continues_ascii c) (list_all continues_ascii cs) h in
    ap (λ l. c ∷ l) (encoded cs parts.1) ∙ sym (ap (λ l. l ++ encode_utf8_all cs) (encode_ascii c (ascii_only c parts.0)))

pub continued_ascii : (text bytes : List ℕ) (n : ℕ) → IsUtf8 text → bytes ≡ text → n ≡ prefix_len continues_ascii bytes → Continued text n
continued_ascii text bytes n utf8 same is =
    let n_is : n ≡ prefix_len continues_ascii text = is ∙ ap (prefix_len continues_ascii) same in
    let all : list_all continues_ascii (take n text) ≡ true = ap (λ k. list_all continues_ascii (take k text)) n_is ∙ run_passes continues_ascii text in
    record {
      boundary = subst (IsCharBoundary text) (sym n_is) (run_cut continues_ascii ascii_only text utf8);
      continuing = (take n text, all_to continues_ascii continues_ident (λ b h. ascii_continues b (ascii_only b h) ∙ h) (take n text) all, encoded (take n text) all);
    }

pub ascii_stops : (text bytes : List ℕ) (n : ℕ) → bytes ≡ text → n ≡ prefix_len continues_ascii bytes → get_or bytes n 0 < 128 → BeginsWithout continues_ident (drop n text)
ascii_stops text bytes n same is low = subst (λ l. BeginsWithout continues_ident (drop n l)) same (⊎_elim stop end (either n (length bytes)))
  where
    either : (a b : ℕ) → (a < b) ⊎ (b ≤ a)
    either a b = grind arith

    first_is : get_or (drop n bytes) 0 0 ≡ get_or bytes n 0
    first_is = get_or-drop n bytes 0 0 ∙ ap (λ i. get_or bytes i 0) (omega arith)

    stop : n < length bytes → BeginsWithout continues_ident (drop n bytes)
    stop lt =
        let fails : continues_ascii (get_or bytes n 0) ≡ false = ap (λ i. continues_ascii (get_or bytes i 0)) is ∙ prefix_len_stops continues_ascii bytes 0 (omega (arith, is, lt)) in
        ascii_without continues_ident (drop n bytes) (omega (arith, length-drop n bytes)) (omega (arith, first_is)) (ap continues_ident first_is ∙ ascii_continues (get_or bytes n 0) low ∙ fails)

    end : length bytes ≤ n → BeginsWithout continues_ident (drop n bytes)
    end le = inl (drop_all n bytes le)

-- if the first byte may begin an identifier, and the first that doesn't continue one is ASCII too
pub begun : (text bytes : List ℕ) (n : ℕ) → bytes ≡ text → n ≡ prefix_len continues_ascii bytes → get_or bytes n 0 < 128 → may_begin_ident (get_or text 0 0) ≡ true → BeginsWith starts_ident text
begun text bytes n same is stops may = at text (is ∙ ap (prefix_len continues_ascii) same) (subst (λ l. get_or l n 0 < 128) same stops) may
  where
    alone : (b : ℕ) → b < 128 → may_begin_ident b ≡ true → (is_ascii_alphabetic b || (b == 95)) ≡ true
    alone b lt h = grind (arith, nat_tests)

    first : (b : ℕ) (rest : List ℕ) (v : Bool) → continues_ascii b ≡ v → n ≡ (if v then 1 + prefix_len continues_ascii rest else 0) → get_or (b ∷ rest) n 0 < 128 → b < 128
    first b rest true e n_is lt = ascii_only b e
    first b rest false e n_is lt = subst (λ k. get_or (b ∷ rest) k 0 < 128) n_is lt

    at : (l : List ℕ) → n ≡ prefix_len continues_ascii l → get_or l n 0 < 128 → may_begin_ident (get_or l 0 0) ≡ true → BeginsWith starts_ident l
    at [] n_is lt h = absurd (cc)
    at (b ∷ rest) n_is lt h =
        let ascii : b < 128 = first b rest (continues_ascii b) refl n_is lt in
        ascii_with starts_ident (b ∷ rest) (omega arith) ascii (ascii_starts b ascii ∙ alone b ascii h)

pub continued_more : (text rest : List ℕ) (len n : ℕ) → IsUtf8 text → Continued text len → rest ≡ drop len text → FirstChar continues_ident rest n → Continued text (len + n)
continued_more text rest len n utf8 so_far e f =
    let c : ℕ = f.begins.first in
    let after : drop len text ≡ encode_utf8 c ++ f.begins.rest = sym e ∙ f.begins.whole in
    let within : len ≤ length text = so_far.boundary.0 in
    let front_len : length (take len text) ≡ len = length-take-le len text within in
    let size : n ≡ len_utf8 c = f.takes ∙ length-encode c in
    let taken : take (len + n) text ≡ take len text ++ encode_utf8 c =
    sym (ap (take (len + n)) (take-append-drop len text)) ∙ ap (λ k. take (k + n) (take len text ++ drop len text)) (sym front_len) ∙ take-append-add (take len text) (drop len text) n
    ∙ ap (λ l. take len text ++ take n l) after ∙ ap (λ k. take len text ++ take k (encode_utf8 c ++ f.begins.rest)) f.takes ∙ ap (λ l. take len text ++ l) (take-append_seam (encode_utf8 c) f.begins.rest) in
    record {
      boundary = subst (λ k. IsCharBoundary text (len + k)) (sym size) (IsCharBoundary-past_char text f.begins.rest len c within (IsUtf8-drop text len utf8 so_far.boundary) after);
      continuing = subst AreContinuing (sym taken) (more (take len text) so_far.continuing.0 c so_far.continuing.1 so_far.continuing.2 f.begins.passes);
    }

pub char_found : (test : ℕ → Bool) (text rest : List ℕ) (c n : ℕ) (r : Bool) → text ≡ encode_utf8 c ++ rest → r ≡ test c → r ≡ true → n ≡ length (encode_utf8 c) → FirstChar test text n
char_found test text rest c n r e is h len = record { begins = record { first = c; rest = rest; passes = sym is ∙ h; whole = e }; takes = len }

pub first_some : (test : ℕ → Bool) (text : List ℕ) (n : ℕ) → FirstChar test text n → (0 < n) × (n ≤ length text)
first_some test text n f =
    (omega (arith, f.takes, length-encode f.begins.first, (len_utf8_bounds f.begins.first).0), omega (arith, f.takes, ap length f.begins.whole, length-append (encode_utf8 f.begins.first) f.begins.rest))

pub continued_falls : (text rest : List ℕ) (len n : ℕ) → rest ≡ drop len text → FirstChar continues_ident rest n → length text - (len + n) < length text - len
continued_falls text rest len n e f = let some = first_some continues_ident rest n f in omega (arith, some.0, some.1, ap length e, length-drop len text)

-- a run that begins like an identifier is one
module _ (text : List ℕ) (n : ℕ) (utf8 : IsUtf8 text) (begins : BeginsWith starts_ident text) (run : Continued text n) (stop : BeginsWithout continues_ident (drop n text)) where
  never_empty : (rest : List ℕ) → BeginsWithout continues_ident rest → text ≡ rest → ⊥
  never_empty rest (inl e) same = omega (arith, ap length (sym begins.whole ∙ same ∙ e), length-append (encode_utf8 begins.first) begins.rest, length-encode begins.first, (len_utf8_bounds begins.first).0)
  never_empty rest (inr s) same =
      let e = encode_same begins.first s.0 begins.rest s.1 (sym begins.whole ∙ same ∙ s.3) in
      let yes = starts_continues begins.first begins.passes in
      let never : continues_ident begins.first ≡ false = ap continues_ident e.0 ∙ s.2 in
      absurd (cc)

  ident_of : (cs : List ℕ) → list_all continues_ident cs ≡ true → take n text ≡ encode_utf8_all cs → are_ident cs ≡ true
  ident_of [] h e = absurd (never_empty (drop n text) stop (sym (take-append-drop n text) ∙ ap (λ l. l ++ drop n text) e))
  ident_of (c ∷ cs) h e =
      let parts = and_true (continues_ident c) (list_all continues_ident cs) h in
      let same = encode_same begins.first c begins.rest (encode_utf8_all cs ++ drop n text) (sym begins.whole ∙ sym (take-append-drop n text) ∙ ap (λ l. l ++ drop n text) e ∙ append_assoc (encode_utf8 c) (encode_utf8_all cs) (drop n text)) in
      let starts_it : starts_ident c ≡ true = ap starts_ident (sym same.0) ∙ begins.passes in
      λ i. starts_it i && parts.1 i

  pub ident_found : IsLongestFront IsIdent text n
  ident_found =
      let cs : List ℕ = run.continuing.0 in
      let decoded = IsUtf8-take text n utf8 run.boundary in
      let same : decoded.0 ≡ cs = encodes_same decoded.0 cs (decoded.1.1 ∙ run.continuing.2) in
      record {
        within = run.boundary.0;
        formed = (cs, ap all_scalars (sym same) ∙ decoded.1.0, ident_of cs run.continuing.1 run.continuing.2, run.continuing.2);
        longest = λ longer left whole is.
            let most = no_longer_run (take n text) (drop n text) longer left run.continuing stop (whole ∙ sym (take-append-drop n text)) (ident_continues longer is) in
            omega (arith, most, length-take-le n text run.boundary.0);
      }

pub ident_none : (text : List ℕ) → BeginsWithout starts_ident text → HasNoFront IsIdent text
ident_none text without front rest whole is = by is.0 is.2 is.3 without
  where
    by : (cs : List ℕ) → are_ident cs ≡ true → front ≡ encode_utf8_all cs → BeginsWithout starts_ident text → ⊥
    by [] h e s = absurd (cc)
    by (c ∷ cs) h e (inl s) = omega (arith, ap length (sym (ap (λ l. l ++ rest) e) ∙ whole ∙ s), length-append (encode_utf8 c ++ encode_utf8_all cs) rest, length-append (encode_utf8 c) (encode_utf8_all cs), length-encode c, (len_utf8_bounds c).0)
    by (c ∷ cs) h e (inr s) =
        let same = encode_same c s.0 (encode_utf8_all cs ++ rest) s.1 (sym (append_assoc (encode_utf8 c) (encode_utf8_all cs) rest) ∙ sym (ap (λ l. l ++ rest) e) ∙ whole ∙ s.3) in
        let yes = (and_true (starts_ident c) (list_all continues_ident cs) h).0 in
        let never : starts_ident c ≡ false = ap starts_ident same.0 ∙ s.2 in
        absurd (cc)
