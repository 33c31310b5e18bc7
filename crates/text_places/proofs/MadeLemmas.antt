-- What an editor makes of the places of edits.
use Rattle.std.proofs.Common.{◌≡◌, ◌∙◌, ◌<◌, ◌≤◌, ◌+◌, ◌-◌, ◌∷◌, [], ℕ, zero, suc, Bool, true, false, List, ap, ap₂, arith, drop, get_or, length, map, not, refl, subst, sym}
use Rattle.std.proofs.lemmas.List.{drop-drop, get_or-drop, length-drop}
use Rattle.std.proofs.lemmas.Bool.{ltb-false, ltb-true}
use Rattle.std.proofs.lemmas.Str.{IsCharBoundary-after_ascii, IsCharBoundary-start}
use Rattle.std.specs.List.{concat}
use Rattle.std.specs.Prelude.{◌==◌, ◌&&◌, if◌then◌else◌, nat_lt}
use Rattle.std.specs.Str.{IsCharBoundary, IsUtf8, bytes_eq}
use Rattle.line_diff.specs.Diffs.{lines_of}
use Rattle.text_places.specs.declared.place.Units.{Units}
use Rattle.text_places.specs.declared.place.Units.TheVariants.{Bytes, Utf16}
use Rattle.text_places.specs.declared.place.Walk.{Walk}
use Rattle.text_places.specs.Places.{begins_character, ends_line, offset_at, place_at, units_of, walk_step, walk_to}
use Rattle.text_places.proofs.PlaceLemmas.{place_comes_back}
use Rattle.text_places.proofs.WalkLemmas.{one_more_step}
use Rattle.text_places.specs.Edits.{Edit, edited_text, edits_from, longer_edit, is_nothing, line_edits, nothing_at, with_edit}
use Rattle.text_places.specs.PlacedEdits.{made_text, offset_edit, placed_edits}
use Rattle.text_places.proofs.CutLemmas.{concat_lines, first_line, IsFirstLine}
use Rattle.text_places.proofs.EditLemmas.{edits_make}

-- a line begins at this offset, or the text ends
record IsLineStart (text : List ℕ) (at : ℕ) : Type 0 where
  within : at ≤ length text
  stops : (n : ℕ) → suc n ≡ at → at < length text → get_or text n 0 ≡ 10

-- edits begin and end at such offsets
abbrev AllAt : (ℕ → Type 0) → List Edit → Type 0
AllAt P [] = Unit {0}
AllAt P (e ∷ es) = P e.from × P e.to × AllAt P es

at_with : (P : ℕ → Type 0) (e : Edit) (es : List Edit) → P e.from → P e.to → AllAt P es → AllAt P (with_edit e es)
at_with P e es f t rest = by (is_nothing e)
  where
    by : (b : Bool) → AllAt P (if b then es else e ∷ es)
    by true = rest
    by false = (f, t, rest)

at_starts : (text : List ℕ) (os ns : List (List ℕ)) (e : Edit) → os ≡ lines_of (drop e.to text) → IsLineStart text e.from → IsLineStart text e.to → AllAt (IsLineStart text) (edits_from e os ns)
at_starts text [] ns e is f t = at_with (IsLineStart text) (longer_edit e [] (concat ns)) [] f (subst (λ n. IsLineStart text n) here t) tt
  where
    here : e.to ≡ e.to + 0
    here = omega arith
at_starts text (o ∷ os) [] e is f t = at_with (IsLineStart text) (longer_edit e (concat (o ∷ os)) []) [] f end tt
  where
    last : e.to + length (concat (o ∷ os)) ≡ length text
    last = let all : length (concat (o ∷ os)) ≡ length (drop e.to text) = ap length (ap concat is ∙ concat_lines (drop e.to text)) in omega (arith, all, t.within, length-drop e.to text)

    end : IsLineStart text (e.to + length (concat (o ∷ os)))
    end = record { within = omega (arith, last); stops = λ n h more. absurd (omega (arith, more, last)) }
at_starts text (o ∷ os) (n ∷ ns) e is f t =
    by (bytes_eq o n) (at_starts text os ns (nothing_at (e.to + length o)) rest next next) (at_starts text os ns (longer_edit e o n) rest f next)
  where
    first : IsFirstLine (drop e.to text) o os
    first = first_line (drop e.to text) o os (sym is)

    rest : os ≡ lines_of (drop (e.to + length o) text)
    rest = first.rest ∙ ap lines_of (drop-drop (length o) e.to text)

    next : IsLineStart text (e.to + length o)
    next = record {
      within = omega (arith, first.within, t.within, length-drop e.to text);
      stops = λ k h more.
          let last : suc (length o - 1) ≡ length o = omega (arith, first.some) in
          let there : e.to + (length o - 1) ≡ k = omega (arith, h, first.some) in
          ap (λ m. get_or text m 0) (sym there) ∙ sym (get_or-drop e.to text (length o - 1) 0) ∙ first.stops (length o - 1) last (omega (arith, more, length-drop e.to text));
    }

    by : (b : Bool) → AllAt (IsLineStart text) (edits_from (nothing_at (e.to + length o)) os ns) → AllAt (IsLineStart text) (edits_from (longer_edit e o n) os ns)
        → AllAt (IsLineStart text) (if b then with_edit e (edits_from (nothing_at (e.to + length o)) os ns) else edits_from (longer_edit e o n) os ns)
    by true one two = at_with (IsLineStart text) e (edits_from (nothing_at (e.to + length o)) os ns) f t one
    by false one two = two

-- where a line begins, a character does

no_cr : (units : Units) (text : List ℕ) (at : ℕ) → IsLineStart text at → at < length text → (walk_to units text at).after_cr ≡ false
no_cr units text zero start more = refl
no_cr units text (suc n) start more =
    let next : suc n ≡ n + 1 = omega arith in
    ap (λ k. (walk_to units text k).after_cr) next ∙ ap (λ (w : Walk). w.after_cr) (one_more_step units text n 0 (omega (arith, more)))
    ∙ ap (λ b. (walk_step units (walk_to units text n) b).after_cr) (start.stops n refl more)

bounds : (text : List ℕ) (at : ℕ) → IsUtf8 text → IsLineStart text at → at < length text → IsCharBoundary text at
bounds text zero utf8 start more = IsCharBoundary-start text utf8
bounds text (suc n) utf8 start more =
    let next : n + 1 ≡ suc n = omega arith in
    let lf : get_or text n 0 ≡ 10 = start.stops n refl more in
    subst (λ k. IsCharBoundary text k) next (IsCharBoundary-after_ascii text n utf8 (omega (arith, more)) (omega (arith, lf)))

some_units : (units : Units) (b : ℕ) → (128 ≤ b → 192 ≤ b) → nat_lt 0 (units_of units b) ≡ true
some_units Bytes b lead = refl
some_units Utf16 b lead = by (nat_lt b 128) (nat_lt b 192) (nat_lt b 240) refl refl
  where
    by : (t u v : Bool) → nat_lt b 128 ≡ t → nat_lt b 192 ≡ u → nat_lt 0 (if t then 1 else if u then 0 else if v then 1 else 2) ≡ true
    by true u v one two = refl
    by false true v one two = absurd (no one two)
      where
        no : nat_lt b 128 ≡ false → nat_lt b 192 ≡ true → ⊥
        no high low =
            let from : 128 ≤ b = ltb-false b 128 high in
            let below : b < 192 = ltb-true b 192 low in
            let above : 192 ≤ b = lead from in
            omega (arith, below, above)
    by false false true one two = refl
    by false false false one two = refl

begun : (units : Units) (text : List ℕ) (at : ℕ) → IsUtf8 text → IsLineStart text at → begins_character units (walk_to units text at) (drop at text) ≡ true
begun units text at utf8 start = by (drop at text) refl
  where
    by : (bs : List ℕ) → drop at text ≡ bs → begins_character units (walk_to units text at) bs ≡ true
    by [] is = refl
    by (b ∷ bs) is =
        let more : at < length text = let long : length (drop at text) ≡ suc (length bs) = ap length is in omega (arith, long, length-drop at text) in
        let here : at + 0 ≡ at = omega arith in
        let first : get_or text at 0 ≡ b = ap (λ n. get_or text n 0) (sym here) ∙ sym (get_or-drop at text 0 0) ∙ ap (λ l. get_or l 0 0) is in
        let lead : 128 ≤ b → 192 ≤ b = subst (λ x. 128 ≤ x → 192 ≤ x) first ((bounds text at utf8 start more).1 more) in
        ap (λ a. if ends_line b then not (a && b == 10) else nat_lt 0 (units_of units b)) (no_cr units text at start more) ∙ either (ends_line b) (some_units units b lead)
      where
        either : (t : Bool) → nat_lt 0 (units_of units b) ≡ true → (if t then not (false && b == 10) else nat_lt 0 (units_of units b)) ≡ true
        either true h = refl
        either false h = h

-- AN EDITOR MAKES THE NEW TEXT

read_back : (units : Units) (old : List ℕ) (es : List Edit) → IsUtf8 old → AllAt (IsLineStart old) es → map (offset_edit units old) (placed_edits units old es) ≡ es
read_back units old [] utf8 all = refl
read_back units old (e ∷ es) utf8 all =
    ap₂ (λ (x : Edit) (xs : List Edit). x ∷ xs)
    (ap₂ (λ f t. record { from = f; to = t; text = e.text }) (back e.from all.0) (back e.to all.1))
    (read_back units old es utf8 all.2)
  where
    back : (at : ℕ) → IsLineStart old at → offset_at units old (place_at units old at) ≡ at
    back at start = place_comes_back units old at start.within (begun units old at utf8 start)

pub editors_read : (units : Units) (old new : List ℕ) → IsUtf8 old → map (offset_edit units old) (placed_edits units old (line_edits old new)) ≡ line_edits old new
editors_read units old new utf8 = read_back units old (line_edits old new) utf8 (at_starts old (lines_of old) (lines_of new) (nothing_at 0) refl front front)
  where
    front : IsLineStart old 0
    front = record { within = omega arith; stops = λ n h more. absurd (omega (arith, h)) }

pub editors_make : (units : Units) (old new : List ℕ) → IsUtf8 old → made_text units old (placed_edits units old (line_edits old new)) ≡ new
editors_make units old new utf8 = ap (λ es. edited_text es old) (editors_read units old new utf8) ∙ edits_make old new
