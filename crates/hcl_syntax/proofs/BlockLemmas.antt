-- A block, its labels and the range of its body.
use Rattle.std.proofs.Common.{◌≡◌, ◌∙◌, ap, ap₂, sym, refl, ℕ, suc, zero, ◌+◌, ◌-◌, ◌≤◌, ◌<◌, Bool, true, false, cond, not, min, List, [], ◌∷◌, ◌++◌, append_assoc, take, drop, arith}
use Rattle.std.specs.Prelude.{filter, nat_lt}
use borrow.Author.Tests.{ltb-true, ltb-false}
use Rattle.hcl_tokens.specs.Lexemes.{Lexeme}
use Rattle.hcl_grammar.specs.Numbered.{Numbered, numbered_from, without_comments, is_comment}
use Rattle.hcl_grammar.specs.Items.{after_brace, block_end, body, labels}
use Rattle.hcl_syntax.specs.Inner.Segments.{tokens_between, CanBegin, words}
use Rattle.hcl_syntax.specs.Inner.Bodies.{PushesBlock}
use Rattle.hcl_grammar.specs.declared.item.Item.{Item}
use Rattle.hcl_grammar.specs.declared.item.Item.TheVariants as item
use Rattle.hcl_grammar.proofs.NumberedLemmas.{number_of}
use Rattle.hcl_syntax.proofs.FirstSegmentLemmas.{take_none, take_zero}

filter_filter : {X : Type 0} (p q : X → Bool) (xs : List X) → filter p (filter q xs) ≡ filter q (filter p xs)
filter_filter p q [] = refl
filter_filter {X} p q (x ∷ xs) = by (p x) (q x) refl refl (filter_filter p q xs)
  where
    F : List X
    F = filter q xs

    G : List X
    G = filter p xs

    by : (a b : Bool) → p x ≡ a → q x ≡ b → filter p F ≡ filter q G → filter p (cond (q x) (x ∷ F) F) ≡ filter q (cond (p x) (x ∷ G) G)
    by true true a b e =
        ap (λ y. filter p (cond y (x ∷ F) F)) b ∙ ap (λ y. cond y (x ∷ filter p F) (filter p F)) a ∙ ap (λ r. x ∷ r) e
        ∙ sym (ap (λ y. filter q (cond y (x ∷ G) G)) a ∙ ap (λ y. cond y (x ∷ filter q G) (filter q G)) b)
    by true false a b e = ap (λ y. filter p (cond y (x ∷ F) F)) b ∙ e ∙ sym (ap (λ y. filter q (cond y (x ∷ G) G)) a ∙ ap (λ y. cond y (x ∷ filter q G) (filter q G)) b)
    by false true a b e = ap (λ y. filter p (cond y (x ∷ F) F)) b ∙ ap (λ y. cond y (x ∷ filter p F) (filter p F)) a ∙ e ∙ sym (ap (λ y. filter q (cond y (x ∷ G) G)) a)
    by false false a b e = ap (λ y. filter p (cond y (x ∷ F) F)) b ∙ e ∙ sym (ap (λ y. filter q (cond y (x ∷ G) G)) a)

-- the tokens before a number
before_taken : (last k n : ℕ) (xs : List Lexeme) → filter (λ t. nat_lt (t.number + 1) last) (take k (numbered_from n xs)) ≡ take (min k (last - 1 - n)) (numbered_from n xs)
before_taken last k n [] = ap (filter (λ t. nat_lt (t.number + 1) last)) (take_none k) ∙ sym (take_none (min k (last - 1 - n)))
before_taken last zero n (x ∷ xs) = let z : min 0 (last - 1 - n) ≡ 0 = omega arith in sym (ap (λ j. take j (numbered_from n (x ∷ xs))) z)
before_taken last (suc k) n (x ∷ xs) = by (nat_lt (n + 1) last) refl (before_taken last k (n + 1) xs)
  where
    by : (b : Bool) → nat_lt (n + 1) last ≡ b → filter (λ t. nat_lt (t.number + 1) last) (take k (numbered_from (n + 1) xs)) ≡ take (min k (last - 1 - (n + 1))) (numbered_from (n + 1) xs)
        → cond (nat_lt (n + 1) last) (number_of n x ∷ filter (λ t. nat_lt (t.number + 1) last) (take k (numbered_from (n + 1) xs))) (filter (λ t. nat_lt (t.number + 1) last) (take k (numbered_from (n + 1) xs)))
        ≡ take (min (suc k) (last - 1 - n)) (numbered_from n (x ∷ xs))
    by true less rest =
        let h : n + 1 < last = ltb-true (n + 1) last less in
        let s : suc (min k (last - 1 - (n + 1))) ≡ min (suc k) (last - 1 - n) = omega (arith, h) in
        ap (λ b. cond b (number_of n x ∷ filter (λ t. nat_lt (t.number + 1) last) (take k (numbered_from (n + 1) xs))) (filter (λ t. nat_lt (t.number + 1) last) (take k (numbered_from (n + 1) xs)))) less
        ∙ ap (λ r. number_of n x ∷ r) rest ∙ ap (λ j. take j (numbered_from n (x ∷ xs))) s
    by false more rest =
        let h : last ≤ n + 1 = ltb-false (n + 1) last more in
        let z : min k (last - 1 - (n + 1)) ≡ 0 = omega (arith, h) in
        let s : 0 ≡ min (suc k) (last - 1 - n) = omega (arith, h) in
        ap (λ b. cond b (number_of n x ∷ filter (λ t. nat_lt (t.number + 1) last) (take k (numbered_from (n + 1) xs))) (filter (λ t. nat_lt (t.number + 1) last) (take k (numbered_from (n + 1) xs)))) more
        ∙ rest ∙ ap (λ j. take j (numbered_from (n + 1) xs)) z ∙ take_zero (numbered_from (n + 1) xs) ∙ ap (λ j. take j (numbered_from n (x ∷ xs))) s

pub words_before : (ts : List Lexeme) (first to last : ℕ) → last ≤ to → filter (λ t. nat_lt (t.number + 1) last) (words ts first to) ≡ words ts first (last - 1)
words_before ts first to last h =
    let e : min (to - first) (last - 1 - first) ≡ last - 1 - first = omega (arith, h) in
    filter_filter (λ t. nat_lt (t.number + 1) last) (λ t. not (is_comment t.kind)) (tokens_between ts first to)
    ∙ ap without_comments (before_taken last (to - first) first (drop first ts) ∙ ap (λ j. take j (numbered_from first (drop first ts))) e)

pub puts_block : (ts : List Lexeme) (level kind to first last end : ℕ) (old mid new : List Item)
    → words ts first to ≡ after_brace (words ts (kind + 1) to) → kind + 1 ≤ first → last ≡ block_end (words ts (kind + 1) to) → last ≤ to → (first < to → CanBegin ts first) → end ≡ last - 1
    → mid ≡ old ++ item.Block level kind last ∷ [] → new ≡ mid ++ labels (words ts (kind + 1) to)
    → PushesBlock ts level kind to old new (record { first = first; end = end })
puts_block ts level kind to first last end old mid new after above is within begins at pushed put = record {
  is = λ inner head same.
      ap (λ r. r ++ inner (words ts first end)) (put ∙ ap (λ r. r ++ labels rest) pushed)
      ∙ append_assoc (old ++ item.Block level kind last ∷ []) (labels rest) (inner (words ts first end))
      ∙ append_assoc old (item.Block level kind last ∷ []) (labels rest ++ inner (words ts first end))
      ∙ ap (λ ws. old ++ item.Block level kind last ∷ (labels rest ++ inner ws)) inside
      ∙ ap₂ (λ n e. old ++ item.Block level n e ∷ (labels rest ++ inner (body rest))) (sym same) is;
  within = omega (arith, at, within);
  deeper = omega (arith, above);
  begins = λ some. begins (omega (arith, some, at, within));
}
  where
    rest : List Numbered
    rest = words ts (kind + 1) to

    inside : words ts first end ≡ body rest
    inside =
        ap (λ n. words ts first n) at
        ∙ sym (words_before ts first to last within)
        ∙ ap (filter (λ t. nat_lt (t.number + 1) last)) after
        ∙ ap (λ n. filter (λ t. nat_lt (t.number + 1) n) (after_brace rest)) is
