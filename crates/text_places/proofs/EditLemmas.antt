-- The edits of two texts, line by line.
use Rattle.std.proofs.Common.{◌≡◌, ◌∙◌, ◌<◌, ◌≤◌, ◌+◌, ◌-◌, ◌++◌, ◌∷◌, ◌⊎◌, [], ℕ, suc, Bool, true, false, List, ap, ap₂, append_assoc, append-nil, arith, drop, drop-cons, get_or, inl, inr, length, length-append, map, refl, subst, sym, take, true≢false}
use Rattle.std.proofs.lemmas.List.{drop-drop, length-drop, take_all}
use Rattle.std.proofs.Math.Seq.{drop-append_seam, take-append_seam}
use Rattle.std.proofs.lemmas.Bool.{eq-eqb}
use Rattle.std.proofs.lemmas.Bool.Decides.{eqb_tells}
use Rattle.std.proofs.lemmas.Slice.Eq.{bytes_eq-Decides}
use Rattle.std.specs.List.{concat}
use Rattle.std.specs.Prelude.{◌≢◌, ◌==◌, ◌&&◌, if◌then◌else◌}
use Rattle.std.specs.Str.{bytes_eq}
use Rattle.line_diff.specs.Diffs.{lines_of}
use Rattle.text_places.specs.declared.edits.TextEdit.{TextEdit}
use Rattle.text_places.specs.Edits.{Edit, edit_of, EditsAscend, edited_text, edited_from, edits_from, longer_edit, is_nothing, line_edits, nothing_at, with_edit}
use Rattle.text_places.specs.Inner.Cuts.{between, change, CutsLine}
use Rattle.text_places.proofs.CutLemmas.{between_more, between_none, concat_lines, length_between, no_more}

-- one line of each text

differ : (e : Edit) (o n : List ℕ) (os ns : List (List ℕ)) → bytes_eq o n ≡ false → edits_from e (o ∷ os) (n ∷ ns) ≡ edits_from (longer_edit e o n) os ns
differ e o n os ns is = ap (λ (t : Bool). if t then with_edit e (edits_from (nothing_at (e.to + length o)) os ns) else edits_from (longer_edit e o n) os ns) is

same : (e : Edit) (o n : List ℕ) (os ns : List (List ℕ)) → bytes_eq o n ≡ true → edits_from e (o ∷ os) (n ∷ ns) ≡ with_edit e (edits_from (nothing_at (e.to + length o)) os ns)
same e o n os ns is = ap (λ (t : Bool). if t then with_edit e (edits_from (nothing_at (e.to + length o)) os ns) else edits_from (longer_edit e o n) os ns) is

-- the code's walk: a part of each text is waiting

change_at : (from to : ℕ) (new : List ℕ) (start end to' : ℕ) (text : List ℕ) → to' ≡ to → text ≡ between new start end → record { from = from; to = to'; text = text } ≡ change from to new start end
change_at from to new start end to' text is part = ap₂ (λ t l. record { from = from; to = t; text = l }) is part

pub part_grows : (made whole : List Edit) (old new : List ℕ) (f i a b c d : ℕ) → i ≤ b → CutsLine old a c → CutsLine new b d → bytes_eq (between old a c) (between new b d) ≡ false
    → made ++ edits_from (change f a new i b) (lines_of (drop a old)) (lines_of (drop b new)) ≡ whole
    → made ++ edits_from (change f c new i d) (lines_of (drop c old)) (lines_of (drop d new)) ≡ whole
part_grows made whole old new f i a b c d ib cut_old cut_new is before =
    ap (λ l. made ++ l) (sym (
    ap₂ (λ os ns. edits_from (change f a new i b) os ns) cut_old.lines cut_new.lines
    ∙ differ (change f a new i b) (between old a c) (between new b d) (lines_of (drop c old)) (lines_of (drop d new)) is
    ∙ ap (λ e. edits_from e (lines_of (drop c old)) (lines_of (drop d new)))
    (change_at f c new i d (a + length (between old a c)) (between new i b ++ between new b d)
    (length_between old a c (omega (arith, cut_old.after)) cut_old.within) (between_more new i b d ib (omega (arith, cut_new.after))))
    )) ∙ before

alone : (e : Edit) (es : List Edit) → with_edit e es ≡ with_edit e [] ++ es
alone e es = by (is_nothing e)
  where
    by : (t : Bool) → (if t then es else e ∷ es) ≡ (if t then [] else e ∷ []) ++ es
    by true = refl
    by false = refl

pub part_ends : (made more whole : List Edit) (old new : List ℕ) (f i a b c d : ℕ) → CutsLine old a c → CutsLine new b d → bytes_eq (between old a c) (between new b d) ≡ true
    → more ≡ made ++ with_edit (change f a new i b) []
    → made ++ edits_from (change f a new i b) (lines_of (drop a old)) (lines_of (drop b new)) ≡ whole
    → more ++ edits_from (change c c new d d) (lines_of (drop c old)) (lines_of (drop d new)) ≡ whole
part_ends made more whole old new f i a b c d cut_old cut_new is added before =
    ap (λ l. l ++ edits_from (change c c new d d) (lines_of (drop c old)) (lines_of (drop d new))) added
    ∙ append_assoc made (with_edit (change f a new i b) []) _
    ∙ ap (λ l. made ++ l) (sym (
    ap₂ (λ os ns. edits_from (change f a new i b) os ns) cut_old.lines cut_new.lines
    ∙ same (change f a new i b) (between old a c) (between new b d) (lines_of (drop c old)) (lines_of (drop d new)) is
    ∙ ap (λ e. with_edit (change f a new i b) (edits_from e (lines_of (drop c old)) (lines_of (drop d new)))) empty
    ∙ alone (change f a new i b) (edits_from (change c c new d d) (lines_of (drop c old)) (lines_of (drop d new)))
    )) ∙ before
  where
    there : a + length (between old a c) ≡ c
    there = length_between old a c (omega (arith, cut_old.after)) cut_old.within

    empty : nothing_at (a + length (between old a c)) ≡ change c c new d d
    empty = ap (λ k. nothing_at k) there ∙ ap (λ l. record { from = c; to = c; text = l }) (sym (between_none new d))

rest_last : (e : Edit) (os ns : List (List ℕ)) → (os ≡ []) ⊎ (ns ≡ []) → edits_from e os ns ≡ with_edit (longer_edit e (concat os) (concat ns)) []
rest_last e [] ns none = refl
rest_last e (o ∷ os) [] none = refl
rest_last e (o ∷ os) (n ∷ ns) (inl none) = absurd (cc)
rest_last e (o ∷ os) (n ∷ ns) (inr none) = absurd (cc)

pub parts_done : (made more whole : List Edit) (old new : List ℕ) (f i a b : ℕ) → (length old ≤ a) ⊎ (length new ≤ b) → i ≤ b → a ≤ length old → b ≤ length new
    → more ≡ made ++ with_edit (change f (length old) new i (length new)) []
    → made ++ edits_from (change f a new i b) (lines_of (drop a old)) (lines_of (drop b new)) ≡ whole
    → more ≡ whole
parts_done made more whole old new f i a b done ib within_old within_new added before =
    added ∙ ap (λ l. made ++ l) (sym (rest_last (change f a new i b) (lines_of (drop a old)) (lines_of (drop b new)) (none done) ∙ ap (λ e. with_edit e []) last)) ∙ before
  where
    none : (length old ≤ a) ⊎ (length new ≤ b) → (lines_of (drop a old) ≡ []) ⊎ (lines_of (drop b new) ≡ [])
    none (inl h) = inl (ap lines_of (no_more old a h))
    none (inr h) = inr (ap lines_of (no_more new b h))

    to : a + length (concat (lines_of (drop a old))) ≡ length old
    to = let all : length (concat (lines_of (drop a old))) ≡ length (drop a old) = ap length (concat_lines (drop a old)) in omega (arith, all, length-drop a old, within_old)

    rest : concat (lines_of (drop b new)) ≡ between new b (length new)
    rest = let all : length (drop b new) ≤ length new - b = omega (arith, length-drop b new) in concat_lines (drop b new) ∙ sym (take_all (length new - b) (drop b new) all)

    last : longer_edit (change f a new i b) (concat (lines_of (drop a old))) (concat (lines_of (drop b new))) ≡ change f (length old) new i (length new)
    last = change_at f (length old) new i (length new) (a + length (concat (lines_of (drop a old)))) (between new i b ++ concat (lines_of (drop b new)))
        to (ap (λ l. between new i b ++ l) rest ∙ between_more new i b (length new) ib within_new)

-- with an edit that may be none

nothing : (e : Edit) → is_nothing e ≡ true → (e.from ≡ e.to) × (e.text ≡ [])
nothing e is = by (eqb_tells e.from e.to) (eqb_tells (length e.text) 0)
  where
    none : (xs : List ℕ) → length xs ≡ 0 → xs ≡ []
    none [] h = refl
    none (x ∷ xs) h = absurd (no h)
      where
        no : suc (length xs) ≡ 0 → ⊥
        no z = omega (arith, z)

    by : (((e.from == e.to) ≡ true) × (e.from ≡ e.to)) ⊎ (((e.from == e.to) ≡ false) × (e.from ≢ e.to)) → (((length e.text == 0) ≡ true) × (length e.text ≡ 0)) ⊎ (((length e.text == 0) ≡ false) × (length e.text ≢ 0))
        → (e.from ≡ e.to) × (e.text ≡ [])
    by (inl h) (inl k) = (h.1, none e.text k.1)
    by (inl h) (inr k) = absurd (true≢false (sym is ∙ ap₂ (λ s t. s && t) h.0 k.0))
    by (inr h) k = absurd (true≢false (sym is ∙ ap (λ s. s && (length e.text == 0)) h.0))

with_nothing : (e : Edit) (es : List Edit) → e.from ≡ e.to → length e.text ≡ 0 → with_edit e es ≡ es
with_nothing e es ends empty =
    ap (λ (t : Bool). if t then es else e ∷ es) (ap₂ (λ s t. s && t) (eq-eqb e.from e.to ends) (eq-eqb (length e.text) 0 empty))

-- THE EDITS ASCEND

ascend_with : (e : Edit) (es : List Edit) (at b end : ℕ) → at ≤ e.from → e.from ≤ e.to → e.to ≤ b → ((a : ℕ) → a ≤ b → EditsAscend a end es) → EditsAscend at end (with_edit e es)
ascend_with e es at b end af ft tb rest = by (is_nothing e)
  where
    by : (t : Bool) → EditsAscend at end (if t then es else e ∷ es)
    by true = rest at (omega (arith, af, ft, tb))
    by false = (af, ft, rest e.to tb)

ascend_from : (os ns : List (List ℕ)) (e : Edit) (at end : ℕ) → at ≤ e.from → e.from ≤ e.to → e.to + length (concat os) ≡ end → EditsAscend at end (edits_from e os ns)
ascend_from [] ns e at end af ft all =
    let last : e.to + 0 ≡ end = all in
    ascend_with (longer_edit e [] (concat ns)) [] at end end af (omega (arith, ft)) (omega (arith, last)) (λ a h. h)
ascend_from (o ∷ os) [] e at end af ft all =
    ascend_with (longer_edit e (concat (o ∷ os)) []) [] at end end af (omega (arith, ft)) (omega (arith, all)) (λ a h. h)
ascend_from (o ∷ os) (n ∷ ns) e at end af ft all =
    by (bytes_eq o n) (λ a h. ascend_from os ns (nothing_at (e.to + length o)) a end h (omega arith) rest) (ascend_from os ns (longer_edit e o n) at end af (omega (arith, ft)) rest)
  where
    rest : (e.to + length o) + length (concat os) ≡ end
    rest = omega (arith, all, length-append o (concat os))

    by : (t : Bool) → ((a : ℕ) → a ≤ e.to + length o → EditsAscend a end (edits_from (nothing_at (e.to + length o)) os ns)) → EditsAscend at end (edits_from (longer_edit e o n) os ns)
        → EditsAscend at end (if t then with_edit e (edits_from (nothing_at (e.to + length o)) os ns) else edits_from (longer_edit e o n) os ns)
    by true one two = ascend_with e (edits_from (nothing_at (e.to + length o)) os ns) at (e.to + length o) end af ft (omega arith) one
    by false one two = two

pub ascends : (old new : List ℕ) → EditsAscend 0 (length old) (line_edits old new)
ascends old new = ascend_from (lines_of old) (lines_of new) (nothing_at 0) 0 (length old) (omega arith) (omega arith) all
  where
    all : 0 + length (concat (lines_of old)) ≡ length old
    all = let long : length (concat (lines_of old)) ≡ length old = ap length (concat_lines old) in omega (arith, long)

-- what follows from the order, for a walk over the edits
pub ascends_within : (at end : ℕ) (es : List Edit) → EditsAscend at end es → at ≤ end
ascends_within at end [] h = h
ascends_within at end (e ∷ es) h = omega (arith, h.0, h.1, ascends_within e.to end es h.2)

-- A TEXT IS MADE ITSELF BY NO EDITS

none_from : (os : List (List ℕ)) (at : ℕ) → edits_from (nothing_at at) os os ≡ []
none_from [] at = with_nothing (longer_edit (nothing_at at) [] []) [] (omega arith) refl
none_from (o ∷ os) at =
    same (nothing_at at) o o os os ((bytes_eq-Decides o o).1 refl) ∙ with_nothing (nothing_at at) (edits_from (nothing_at (at + length o)) os os) refl refl ∙ none_from os (at + length o)

pub no_edits : (text : List ℕ) → line_edits text text ≡ []
no_edits text = none_from (lines_of text) 0

-- THE EDITS MAKE THE NEW TEXT

edited_with : (text : List ℕ) (e : Edit) (es : List Edit) (at b : ℕ) (more : List ℕ) → at ≤ e.from → e.from ≤ e.to → e.to ≤ b → ((a : ℕ) → a ≤ b → edited_from a es text ≡ between text a b ++ more)
    → edited_from at (with_edit e es) text ≡ between text at e.from ++ (e.text ++ (between text e.to b ++ more))
edited_with text e es at b more af ft tb rest = by (is_nothing e) refl
  where
    by : (t : Bool) → is_nothing e ≡ t → edited_from at (if t then es else e ∷ es) text ≡ between text at e.from ++ (e.text ++ (between text e.to b ++ more))
    by true is =
        let none = nothing e is in
        let from : between text at e.from ≡ between text at e.to = ap (λ n. between text at n) none.0 in
        rest at (omega (arith, af, ft, tb)) ∙ ap (λ l. l ++ more) (sym (between_more text at e.to b (omega (arith, af, ft)) tb))
        ∙ append_assoc (between text at e.to) (between text e.to b) more
        ∙ ap₂ (λ x y. x ++ (y ++ (between text e.to b ++ more))) (sym from) (sym none.1)
    by false is = ap (λ l. between text at e.from ++ (e.text ++ l)) (rest e.to tb)

edited_last : (text : List ℕ) (e : Edit) (at : ℕ) → at ≤ e.from → e.from ≤ e.to → e.to ≡ length text → edited_from at (with_edit e []) text ≡ between text at e.from ++ e.text
edited_last text e at af ft last =
    edited_with text e [] at (length text) [] af ft (omega (arith, last)) (λ a h. sym (append-nil (between text a (length text)) ∙ all a))
    ∙ ap (λ l. between text at e.from ++ (e.text ++ l)) (append-nil (between text e.to (length text)) ∙ ap (λ n. between text n (length text)) last ∙ between_none text (length text))
    ∙ ap (λ l. between text at e.from ++ l) (append-nil e.text)
  where
    all : (a : ℕ) → between text a (length text) ≡ drop a text
    all a = let fits : length (drop a text) ≤ length text - a = omega (arith, length-drop a text) in take_all (length text - a) (drop a text) fits

edited_lines : (text : List ℕ) (os ns : List (List ℕ)) (e : Edit) (at : ℕ) → at ≤ e.from → e.from ≤ e.to → e.to ≤ length text → drop e.to text ≡ concat os
    → edited_from at (edits_from e os ns) text ≡ between text at e.from ++ (e.text ++ concat ns)
edited_lines text [] ns e at af ft within left = edited_last text (longer_edit e [] (concat ns)) at af (omega (arith, ft)) last
  where
    last : e.to + 0 ≡ length text
    last = let none : length (drop e.to text) ≡ 0 = ap length left in omega (arith, none, within, length-drop e.to text)
edited_lines text (o ∷ os) [] e at af ft within left = edited_last text (longer_edit e (concat (o ∷ os)) []) at af (omega (arith, ft)) last
  where
    last : e.to + length (concat (o ∷ os)) ≡ length text
    last = let all : length (drop e.to text) ≡ length (concat (o ∷ os)) = ap length left in omega (arith, all, within, length-drop e.to text)
edited_lines text (o ∷ os) (n ∷ ns) e at af ft within left =
    by (bytes_eq o n) refl
    (λ a h. edited_lines text os ns (nothing_at (e.to + length o)) a h (omega arith) fits rest)
    (edited_lines text os ns (longer_edit e o n) at af (omega (arith, ft)) fits rest)
  where
    fits : e.to + length o ≤ length text
    fits = let all : length (drop e.to text) ≡ length (o ++ concat os) = ap length left in omega (arith, all, within, length-drop e.to text, length-append o (concat os))

    rest : drop (e.to + length o) text ≡ concat os
    rest = sym (drop-drop (length o) e.to text) ∙ ap (λ l. drop (length o) l) left ∙ drop-append_seam o (concat os)

    line : between text e.to (e.to + length o) ≡ o
    line =
        let long : e.to + length o - e.to ≡ length o = omega arith in
        ap (λ k. take k (drop e.to text)) long ∙ ap (λ l. take (length o) l) left ∙ take-append_seam o (concat os)

    by : (t : Bool) → bytes_eq o n ≡ t
        → ((a : ℕ) → a ≤ e.to + length o → edited_from a (edits_from (nothing_at (e.to + length o)) os ns) text ≡ between text a (e.to + length o) ++ concat ns)
        → edited_from at (edits_from (longer_edit e o n) os ns) text ≡ between text at e.from ++ ((e.text ++ n) ++ concat ns)
        → edited_from at (if t then with_edit e (edits_from (nothing_at (e.to + length o)) os ns) else edits_from (longer_edit e o n) os ns) text ≡ between text at e.from ++ (e.text ++ (n ++ concat ns))
    by true is one two =
        edited_with text e (edits_from (nothing_at (e.to + length o)) os ns) at (e.to + length o) (concat ns) af ft (omega arith) one
        ∙ ap (λ l. between text at e.from ++ (e.text ++ (l ++ concat ns))) (line ∙ (bytes_eq-Decides o n).0 is)
    by false is one two = two ∙ ap (λ l. between text at e.from ++ l) (append_assoc e.text n (concat ns))

pub edits_make : (old new : List ℕ) → edited_text (line_edits old new) old ≡ new
edits_make old new = edited_lines old (lines_of old) (lines_of new) (nothing_at 0) 0 (omega arith) (omega arith) (omega arith) (sym (concat_lines old)) ∙ concat_lines new

-- one edit of those that ascend, for a walk over them
pub record Follows (at end : ℕ) (e : Edit) (others : List Edit) : Type 0 where
  pub order : at ≤ e.from
  pub ends : e.from ≤ e.to
  pub within : e.to ≤ end
  pub rest : EditsAscend e.to end others

pub edit_follows : (edits : List TextEdit) (i at end : ℕ) (d : TextEdit) → i < length edits → EditsAscend at end (map edit_of (drop i edits)) → Follows at end (edit_of (get_or edits i d)) (map edit_of (drop (i + 1) edits))
edit_follows edits i at end d lt ascend =
    let next : suc i ≡ i + 1 = omega arith in
    let here : drop i edits ≡ get_or edits i d ∷ drop (i + 1) edits = drop-cons edits i d lt ∙ ap (λ n. get_or edits i d ∷ drop n edits) next in
    let all : EditsAscend at end (map edit_of (get_or edits i d ∷ drop (i + 1) edits)) = subst (λ es. EditsAscend at end (map edit_of es)) here ascend in
    record { order = all.0; ends = all.1; within = ascends_within (get_or edits i d).to end (map edit_of (drop (i + 1) edits)) all.2; rest = all.2 }
