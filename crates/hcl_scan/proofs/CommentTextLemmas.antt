-- Comments at the front of a text.
use Rattle.std.proofs.Common.{◌≡◌, ℕ, zero, suc, ◌+◌, ◌<◌, ◌≤◌, ◌&&◌, ◌||◌, ◌==◌, not, Bool, true, false, List, [], ◌∷◌, ◌++◌, length, take, drop, get_or, ◌⊎◌, ⊎_elim, refl, sym, ap, subst, ◌∙◌, arith, length-append, append_assoc, length-take-le, add-zero, add-one, drop-cons}
use Rattle.std.proofs.Math.Numerals.{one-add}
use Rattle.std.specs.Prelude.{nat_eq}
use Rattle.std.specs.List.{list_all, list_any, prefix_len, starts_with}
use Rattle.std.proofs.lemmas.List.{take-append-drop, get_or_append_left, get_or-append-add}
use Rattle.std.proofs.lemmas.List.Sums.{prefix_len-le-length}
use Rattle.std.proofs.lemmas.Bool.Decides.{nat_tests}
use Rattle.hcl_tokens.specs.Spelling.{starts, Holds, IsLineComment, IsInlineComment}
use Rattle.hcl_scan.specs.Inner.Found.{IsLongestFront, HasNoFront, EndsComment}
use Rattle.hcl_tokens.proofs.BooleanLemmas.{and_true, or_cases}
use Rattle.hcl_scan.proofs.LongestFrontLemmas.{begins, longest_is, run_passes, run_longest}

-- comments up to the end of the line
abbrev pub goes_on : ℕ → Bool
goes_on b = not (b == 10)

none_passes : (p : ℕ → Bool) (xs : List ℕ) → list_all (λ b. not (p b)) xs ≡ true → list_any p xs ≡ false
none_passes p [] h = refl
none_passes p (x ∷ xs) h = let parts = and_true (not (p x)) (list_all (λ b. not (p b)) xs) h in let rec = none_passes p xs parts.1 in by (p x) (list_any p xs) parts.0 rec
  where
    by : (v w : Bool) → not v ≡ true → w ≡ false → (v || w) ≡ false
    by true w h k = cc
    by false w h k = k

all_fail : (p : ℕ → Bool) (xs : List ℕ) → list_any p xs ≡ false → list_all (λ b. not (p b)) xs ≡ true
all_fail p [] h = refl
all_fail p (x ∷ xs) h = let parts = by (p x) (list_any p xs) h in let rec = all_fail p xs parts.1 in λ i. not (parts.0 i) && rec i
  where
    by : (v w : Bool) → (v || w) ≡ false → (v ≡ false) × (w ≡ false)
    by true w h = cc
    by false w h = (refl, h)

pub starts_split : (text front : List ℕ) → starts text front ≡ true → (r : List ℕ) × (text ≡ front ++ r)
starts_split text [] h = (text, refl)
starts_split [] (c ∷ front) h = absurd (cc)
starts_split (b ∷ text) (c ∷ front) h =
    let parts = and_true (b == c) (starts text front) h in
    let rec = starts_split text front parts.1 in
    (rec.0, (λ i. same b c parts.0 i ∷ rec.1 i))
  where
    same : (b c : ℕ) → (b == c) ≡ true → b ≡ c
    same b c h = grind (arith, nat_tests)

abbrev begins_comment : List ℕ → Bool
begins_comment text = starts text (35 ∷ []) || starts text (47 ∷ 47 ∷ [])

line_kept : (seen : List ℕ) → begins_comment seen ≡ true → begins_comment (take (prefix_len goes_on seen) seen) ≡ true
line_kept seen h = ⊎_elim
    (λ a. let s = starts_split seen (35 ∷ []) a in ap (λ l. begins_comment (take (prefix_len goes_on l) l)) s.1 ∙ hash s.0)
    (λ b. let s = starts_split seen (47 ∷ 47 ∷ []) b in ap (λ l. begins_comment (take (prefix_len goes_on l) l)) s.1 ∙ slashes s.0)
    (or_cases (starts seen (35 ∷ [])) (starts seen (47 ∷ 47 ∷ [])) h)
  where
    hash : (r : List ℕ) → begins_comment (take (prefix_len goes_on (35 ∷ r)) (35 ∷ r)) ≡ true
    hash r = rw one-add refl

    slashes : (r : List ℕ) → begins_comment (take (prefix_len goes_on (47 ∷ 47 ∷ r)) (47 ∷ 47 ∷ r)) ≡ true
    slashes r = rw (one-add, one-add) refl

pub line_comment_found : (seen : List ℕ) (n : ℕ) → n ≡ prefix_len goes_on seen → begins_comment seen ≡ true → IsLongestFront IsLineComment seen n
line_comment_found seen n e h = record {
  within = omega (arith, e, prefix_len-le-length goes_on seen);
  formed = (ap (λ k. begins_comment (take k seen)) e ∙ line_kept seen h, ap (λ k. list_any (λ b. b == 10) (take k seen)) e ∙ none_passes (λ b. b == 10) (take (prefix_len goes_on seen) seen) (run_passes goes_on seen));
  longest = λ longer left whole is. let most = run_longest goes_on longer left (all_fail (λ b. b == 10) longer is.1) in omega (arith, e, most, ap (prefix_len goes_on) whole);
}

-- comments up to the first `*/`
within_by : (text : List ℕ) (n b : ℕ) → get_or text n 0 ≡ suc b → n < length text
within_by [] n b e = absurd (omega (arith, e))
within_by (x ∷ text) zero b e = omega arith
within_by (x ∷ text) (suc n) b e = let rec = within_by text n b e in omega arith

pub end_cut : (text : List ℕ) (n : ℕ) → EndsComment text n → text ≡ take n text ++ (42 ∷ 47 ∷ drop (suc (suc n)) text)
end_cut text n h =
    let at : n < length text = within_by text n 41 h.0 in
    let second : get_or text (suc n) 0 ≡ 47 = ap (λ k. get_or text k 0) (sym (add-one n)) ∙ h.1 in
    let next : suc n < length text = within_by text (suc n) 46 second in
    sym (take-append-drop n text) ∙ ap (λ l. take n text ++ l) (drop-cons text n 0 at ∙ (λ i. h.0 i ∷ (drop-cons text (suc n) 0 next ∙ (λ j. second j ∷ drop (suc (suc n)) text)) i))

pub ends_in : (before after : List ℕ) → EndsComment (before ++ (42 ∷ 47 ∷ after)) (length before)
ends_in before after =
    (sym (ap (λ n. get_or (before ++ (42 ∷ 47 ∷ after)) n 0) (add-zero (length before))) ∙ get_or-append-add before (42 ∷ 47 ∷ after) 0 0, get_or-append-add before (42 ∷ 47 ∷ after) 1 0)

end_within : (text : List ℕ) (n : ℕ) → EndsComment text n → n + 1 < length text
end_within text n h = within_by text (n + 1) 46 h.1

ends_more : (text rest : List ℕ) (n : ℕ) → EndsComment text n → EndsComment (text ++ rest) n
ends_more text rest n h =
    let lt = end_within text n h in
    (get_or_append_left text rest 0 n (omega (arith, lt)) ∙ h.0, get_or_append_left text rest 0 (n + 1) lt ∙ h.1)

pub ends_less : (text rest : List ℕ) (n : ℕ) → n + 1 < length text → EndsComment (text ++ rest) n → EndsComment text n
ends_less text rest n lt h =
    (sym (get_or_append_left text rest 0 n (omega (arith, lt))) ∙ h.0, sym (get_or_append_left text rest 0 (n + 1) lt) ∙ h.1)

pub star_moved : (body rest : List ℕ) → (body ++ (42 ∷ [])) ++ (47 ∷ rest) ≡ body ++ (42 ∷ 47 ∷ rest)
star_moved body rest = append_assoc body (42 ∷ []) (47 ∷ rest)

-- the text that a comment leaves after its `/*`
inner_is : (seen inner body left longer : List ℕ) → seen ≡ 47 ∷ 42 ∷ inner → longer ≡ (47 ∷ 42 ∷ []) ++ body ++ (42 ∷ 47 ∷ []) → longer ++ left ≡ seen → body ++ (42 ∷ 47 ∷ left) ≡ inner
inner_is seen inner body left longer e is whole =
    sym (append_assoc body (42 ∷ 47 ∷ []) left) ∙ ap (drop 2) (ap (λ l. l ++ left) (sym is) ∙ whole ∙ e)

slash_star : (seen inner : List ℕ) → starts_with nat_eq seen (47 ∷ 42 ∷ []) ≡ true → inner ≡ drop 2 seen → seen ≡ 47 ∷ 42 ∷ inner
slash_star seen inner h e = begins seen (47 ∷ 42 ∷ []) h ∙ ap (λ l. 47 ∷ 42 ∷ l) (sym e)

pub inline_comment_found : (seen inner : List ℕ) (n : ℕ) → starts_with nat_eq seen (47 ∷ 42 ∷ []) ≡ true → inner ≡ drop 2 seen → EndsComment inner n → ((m : ℕ) → m < n → EndsComment inner m → ⊥) → IsLongestFront IsInlineComment seen (n + 4)
inline_comment_found seen inner n h e ends first = longest_is IsInlineComment seen text rest (n + 4) len whole formed longest
  where
    seen_is : seen ≡ 47 ∷ 42 ∷ inner
    seen_is = slash_star seen inner h e

    body : List ℕ
    body = take n inner

    rest : List ℕ
    rest = drop (suc (suc n)) inner

    text : List ℕ
    text = (47 ∷ 42 ∷ []) ++ body ++ (42 ∷ 47 ∷ [])

    inner_cut : inner ≡ body ++ (42 ∷ 47 ∷ rest)
    inner_cut = end_cut inner n ends

    body_len : length body ≡ n
    body_len = length-take-le n inner (omega (arith, end_within inner n ends))

    whole : text ++ rest ≡ seen
    whole = ap (λ l. 47 ∷ 42 ∷ l) (append_assoc body (42 ∷ 47 ∷ []) rest ∙ sym inner_cut) ∙ sym seen_is

    len : n + 4 ≡ length text
    len = omega (arith, body_len, length-append body (42 ∷ 47 ∷ []))

    no_end : Holds (body ++ (42 ∷ [])) (42 ∷ 47 ∷ []) → ⊥
    no_end x =
        let here : EndsComment (body ++ (42 ∷ [])) (length x.0) = subst (λ l. EndsComment l (length x.0)) (sym (x.2 ∙ append_assoc x.0 (42 ∷ 47 ∷ []) x.1)) (ends_in x.0 x.1) in
        let there : EndsComment inner (length x.0) = subst (λ l. EndsComment l (length x.0)) (star_moved body rest ∙ sym inner_cut) (ends_more (body ++ (42 ∷ [])) (47 ∷ rest) (length x.0) here) in
        first (length x.0) (omega (arith, end_within (body ++ (42 ∷ [])) (length x.0) here, length-append body (42 ∷ []), body_len)) there

    formed : IsInlineComment text
    formed = (body, refl, no_end)

    longest : (longer left : List ℕ) → longer ++ left ≡ seen → IsInlineComment longer → length longer ≤ length text
    longest longer left same is = ⊎_elim (λ le. omega (arith, len, le, ap length is.1, length-append is.0 (42 ∷ 47 ∷ []))) (λ lt. absurd (is.2 (held lt))) (either (length is.0) n)
      where
        either : (a b : ℕ) → (a ≤ b) ⊎ (b < a)
        either a b = grind arith

        there : (is.0 ++ (42 ∷ [])) ++ (47 ∷ left) ≡ inner
        there = star_moved is.0 left ∙ inner_is seen inner is.0 left longer seen_is is.1 same

        held : n < length is.0 → Holds (is.0 ++ (42 ∷ [])) (42 ∷ 47 ∷ [])
        held lt =
            let here : EndsComment (is.0 ++ (42 ∷ [])) n = ends_less (is.0 ++ (42 ∷ [])) (47 ∷ left) n (omega (arith, lt, length-append is.0 (42 ∷ []))) (subst (λ l. EndsComment l n) (sym there) ends) in
            (take n (is.0 ++ (42 ∷ [])), drop (suc (suc n)) (is.0 ++ (42 ∷ [])), end_cut (is.0 ++ (42 ∷ [])) n here ∙ sym (append_assoc (take n (is.0 ++ (42 ∷ []))) (42 ∷ 47 ∷ []) (drop (suc (suc n)) (is.0 ++ (42 ∷ [])))))

pub inline_comment_none : (seen inner : List ℕ) → starts_with nat_eq seen (47 ∷ 42 ∷ []) ≡ true → inner ≡ drop 2 seen → ((m : ℕ) → EndsComment inner m → ⊥) → HasNoFront IsInlineComment seen
inline_comment_none seen inner h e never text rest whole is =
    never (length is.0) (subst (λ l. EndsComment l (length is.0)) (inner_is seen inner is.0 rest text (slash_star seen inner h e) is.1 whole) (ends_in is.0 rest))
