-- Parts of a text, and places where they may be cut.
use Rattle.std.proofs.Common.{◌≡◌, ℕ, suc, ◌+◌, ◌-◌, ◌≤◌, ◌<◌, List, ◌∷◌, length, take, drop, get_or, slice_range, sym, ap, subst, ◌∙◌, arith, length-drop, length-take-le, get_or-take, get_or-drop, ⊎_elim}
use Rattle.std.specs.Str.{IsCharBoundary}
use Rattle.std.proofs.Math.Nat.{add-sub_cancel_left}
use Rattle.std.proofs.Math.Seq.{drop-cons}
use Rattle.std.proofs.lemmas.Bool.{cases_order}
use Rattle.std.proofs.lemmas.List.{take-take, drop-take, drop-drop}

pub front_of : (text : List ℕ) (at end n : ℕ) → at + n ≤ end → slice_range text at (at + n) ≡ take n (slice_range text at end)
front_of text at end n le = ap (λ k. take k (drop at text)) (add-sub_cancel_left at n) ∙ sym (take-take n (end - at) (drop at text) (omega arith))

pub back_of : (text : List ℕ) (at end n : ℕ) → at + n ≤ end → slice_range text (at + n) end ≡ drop n (slice_range text at end)
back_of text at end n le =
    let m : ℕ = end - (at + n) in
    let e : end - at ≡ n + m = omega arith in
    sym (ap (λ k. drop n (take k (drop at text))) e ∙ drop-take n m (drop at text) ∙ ap (λ l. take m l) (drop-drop n at text))

pub slice_len : (text : List ℕ) (at end : ℕ) → at ≤ end → end ≤ length text → length (slice_range text at end) + at ≡ end
slice_len text at end le within = omega (arith, length-take-le (end - at) (drop at text) (omega (arith, length-drop at text)), length-drop at text)

-- a place in a part is one in the text
pub part_boundary : (text : List ℕ) (at end n : ℕ) → at + n ≤ end → end ≤ length text → IsCharBoundary text end → IsCharBoundary (slice_range text at end) n → IsCharBoundary text (at + n)
part_boundary text at end n le within last here =
    ⊎_elim (λ e. subst (IsCharBoundary text) (sym e) last)
    (λ other. ⊎_elim
    (λ less.
    let len = slice_len text at end (omega arith) within in
    let same : get_or (slice_range text at end) n 0 ≡ get_or text (at + n) 0 = get_or-take (end - at) (drop at text) n 0 (omega arith) ∙ get_or-drop at text n 0 in
    (omega arith, λ lt high. subst (λ b. 192 ≤ b) same (here.1 (omega (arith, len)) (subst (λ b. 128 ≤ b) (sym same) high))))
    (λ more. absurd (omega arith))
    other)
    (cases_order (at + n) end)

-- a byte, and the text after it
pub slice_first : (text : List ℕ) (at end : ℕ) → at < end → end ≤ length text → slice_range text at end ≡ get_or text at 0 ∷ slice_range text (at + 1) end
slice_first text at end lt le =
    let one_more : end - at ≡ suc (end - (at + 1)) = omega arith in
    let next : suc at ≡ at + 1 = omega arith in
    ap (λ n. take n (drop at text)) one_more ∙ ap (λ l. take (suc (end - (at + 1))) l) (drop-cons text at 0 (omega arith) ∙ ap (λ n. get_or text at 0 ∷ drop n text) next)
