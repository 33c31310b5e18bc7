-- Fronts and ends of texts, byte by byte.
use Rattle.std.proofs.Common.{◌≡◌, ◌∙◌, ap, sym, ℕ, suc, ◌+◌, ◌<◌, Bool, true, false, cond, List, [], ◌∷◌, length, take, drop, drop-cons, get_or, reverse, arith}
use Rattle.std.specs.Prelude.{◌==◌}
use Rattle.std.proofs.lemmas.List.{reverse-append, reverse-reverse, take_more}
use Rattle.tf_facts.specs.Texts.{without_front, without_end}
use Rattle.tf_facts.specs.Sources.{after_question}

drop_here : (text : List ℕ) (n : ℕ) → n < length text → drop n text ≡ get_or text n 0 ∷ drop (n + 1) text
drop_here text n h = let m : suc n ≡ n + 1 = omega arith in drop-cons text n 0 h ∙ ap (λ j. get_or text n 0 ∷ drop j text) m

module _ (passes : ℕ → Bool) (text : List ℕ) (n : ℕ) (h : n < length text) where
  front : without_front passes (drop n text) ≡ cond (passes (get_or text n 0)) (without_front passes (drop (n + 1) text)) (get_or text n 0 ∷ drop (n + 1) text)
  front = ap (without_front passes) (drop_here text n h)

  pub front_past : passes (get_or text n 0) ≡ true → without_front passes (drop n text) ≡ without_front passes (drop (n + 1) text)
  front_past e = front ∙ ap (λ b. cond b (without_front passes (drop (n + 1) text)) (get_or text n 0 ∷ drop (n + 1) text)) e

  pub front_here : passes (get_or text n 0) ≡ false → without_front passes (drop n text) ≡ drop n text
  front_here e = front ∙ ap (λ b. cond b (without_front passes (drop (n + 1) text)) (get_or text n 0 ∷ drop (n + 1) text)) e ∙ sym (drop_here text n h)

  last : reverse (take (n + 1) text) ≡ get_or text n 0 ∷ reverse (take n text)
  last = ap reverse (take_more text n 0 h) ∙ reverse-append (take n text) (get_or text n 0 ∷ [])

  rear : without_end passes (take (n + 1) text) ≡ reverse (cond (passes (get_or text n 0)) (without_front passes (reverse (take n text))) (get_or text n 0 ∷ reverse (take n text)))
  rear = ap (λ r. reverse (without_front passes r)) last

  pub end_past : passes (get_or text n 0) ≡ true → without_end passes (take (n + 1) text) ≡ without_end passes (take n text)
  end_past e = rear ∙ ap (λ b. reverse (cond b (without_front passes (reverse (take n text))) (get_or text n 0 ∷ reverse (take n text)))) e

  pub end_here : passes (get_or text n 0) ≡ false → without_end passes (take (n + 1) text) ≡ take (n + 1) text
  end_here e =
      rear ∙ ap (λ b. reverse (cond b (without_front passes (reverse (take n text))) (get_or text n 0 ∷ reverse (take n text)))) e
      ∙ ap reverse (sym last) ∙ reverse-reverse (take (n + 1) text)

-- a byte at the end that passes is removed, where `end` is the number after its own
pub end_past_at : (passes : ℕ → Bool) (text : List ℕ) (end n : ℕ) → end ≡ n + 1 → n < length text → passes (get_or text n 0) ≡ true → without_end passes (take end text) ≡ without_end passes (take n text)
end_past_at passes text end n at h e = ap (λ k. without_end passes (take k text)) at ∙ end_past passes text n h e

pub end_here_at : (passes : ℕ → Bool) (text : List ℕ) (end n : ℕ) → end ≡ n + 1 → n < length text → passes (get_or text n 0) ≡ false → without_end passes (take end text) ≡ take end text
end_here_at passes text end n at h e = ap (λ k. without_end passes (take k text)) at ∙ end_here passes text n h e ∙ ap (λ k. take k text) (sym at)

-- ---- after the first `?`

pub question_here : (text : List ℕ) (n : ℕ) → n < length text → (get_or text n 0 == 63) ≡ true → after_question (drop n text) ≡ drop (n + 1) text
question_here text n h e = ap after_question (drop_here text n h) ∙ ap (λ b. cond b (drop (n + 1) text) (after_question (drop (n + 1) text))) e
