use Rattle.std.proofs.Common.{◌≡◌, ◌∙◌, ◌+◌, ◌-◌, ◌<◌, ap, sym, ℕ, suc, refl, false, cond, List, [], ◌∷◌, ◌++◌, append_assoc, take, drop, drop-cons, length, get_or, codes, arith}
use Rattle.std.proofs.Math.Seq.{take-add}
use Rattle.std.proofs.lemmas.List.{take_rest}
use Rattle.tf_facts.specs.Sources.{before_slashes}
use Rattle.tf_facts.specs.Texts.{begins}
use Rattle.tf_facts.proofs.source.before_slashes.Goals as goal

none : (xs : List ℕ) → take 0 xs ≡ []
none [] = refl
none (x ∷ xs) = refl

-- a byte that begins no `//`
step : (text : List ℕ) (n : ℕ) → n < length text → begins (codes "//") (take (length text - n) (drop n text)) ≡ false → before_slashes text ≡ take n text ++ before_slashes (drop n text)
    → before_slashes text ≡ take (n + 1) text ++ before_slashes (drop (n + 1) text)
step text n h plain so =
    let x : ℕ = get_or text n 0 in
    let m : suc n ≡ n + 1 = omega arith in
    let here : drop n text ≡ x ∷ drop (n + 1) text = drop-cons text n 0 h ∙ ap (λ j. x ∷ drop j text) m in
    let test : begins (codes "//") (x ∷ drop (n + 1) text) ≡ false = ap (begins (codes "//")) (sym here ∙ sym (take_rest text n)) ∙ plain in
    let last : take (n + 1) text ≡ take n text ++ x ∷ [] = take-add n 1 text ∙ ap (λ r. take n text ++ take 1 r) here ∙ ap (λ r. take n text ++ x ∷ r) (none (drop (n + 1) text)) in
    so
    ∙ ap (λ r. take n text ++ before_slashes r) here
    ∙ ap (λ b. take n text ++ cond b [] (x ∷ before_slashes (drop (n + 1) text))) test
    ∙ sym (append_assoc (take n text) (x ∷ []) (before_slashes (drop (n + 1) text)))
    ∙ ap (λ r. r ++ before_slashes (drop (n + 1) text)) (sym last)

pub loop-end-preserved : goal.loop-end-preserved
loop-end-preserved c = step c.args.text.now c.loop-end.end c.loop-end-test.true (sym c.begins.ensures ∙ c.if-begins.false) c.loop-end.invariant
