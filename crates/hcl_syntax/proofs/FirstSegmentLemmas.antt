-- The items of tokens are those of their first segment, and then those of the rest.
use Rattle.std.proofs.Common.{◌≡◌, ◌∙◌, ap, ap₂, sym, refl, true≢false, ℕ, suc, zero, ◌+◌, ◌-◌, ◌≤◌, ◌<◌, Bool, true, false, cond, not, min, List, [], ◌∷◌, ◌++◌, take, drop, arith, add-one, ◌⊎◌, inl, inr}
use Rattle.std.specs.Prelude.{◌&&◌}
use Rattle.std.specs.List.{flat_map}
use Rattle.std.proofs.lemmas.Bool.{cases_lt}
use Rattle.std.proofs.lemmas.List.{drop-drop}
use Rattle.std.proofs.Math.Seq.{drop-nil}
use Rattle.hcl_tokens.specs.Kinds.{is}
use Rattle.hcl_tokens.specs.Lexemes.{Lexeme}
use Rattle.hcl_tokens.specs.declared.token.Kind.{Kind}
use Rattle.hcl_tokens.specs.declared.token.Kind.TheVariants as kind
use Rattle.hcl_grammar.specs.Numbered.{Numbered, numbered_from, without_comments, is_comment}
use Rattle.hcl_grammar.specs.Items.{deepen, is_closed, onto, segments}
use Rattle.hcl_syntax.specs.Inner.Segments.{words, first_len, newline_from}
use Rattle.hcl_grammar.specs.declared.item.Item.{Item}
use Rattle.hcl_grammar.proofs.NumberedLemmas.{number_of}
use Rattle.hcl_syntax.proofs.WordRangeLemmas.{words_none}

abbrev pub taken : ℕ → ℕ → List Lexeme → List Numbered
taken n k xs = without_comments (take k (numbered_from n xs))

-- the segments after the first, which ends before this many of the tokens
abbrev later : ℕ → ℕ → ℕ → List Lexeme → List (List Numbered)
later m zero n xs = []
later m (suc k) n [] = []
later zero (suc k) n (x ∷ xs) = segments 0 (taken (n + 1) k xs)
later (suc m) (suc k) n (x ∷ xs) = later m k (n + 1) xs

-- the first of them
abbrev first_of_them : ℕ → ℕ → ℕ → List Lexeme → List Numbered
first_of_them m k n xs = without_comments (take m (take k (numbered_from n xs)))

pub take_none : {X : Type 0} (k : ℕ) → take {A = X} k [] ≡ []
take_none zero = refl
take_none (suc k) = refl

pub take_zero : {X : Type 0} (xs : List X) → take 0 xs ≡ []
take_zero xs = refl

comment_flat : (k : Kind) (d : ℕ) → is_comment k ≡ true → (is kind.Newline k ≡ false) × (deepen d k ≡ d)
comment_flat kind.LineComment d e = (refl, omega arith)
comment_flat kind.InlineComment d e = (refl, omega arith)
comment_flat _ d e = absurd (true≢false (sym e))

newline_flat : (d : ℕ) (k : Kind) → (is kind.Newline k && is_closed d) ≡ true → deepen d k ≡ 0
newline_flat zero kind.Newline e = omega arith
newline_flat (suc d) kind.Newline e = absurd (true≢false (sym e))
newline_flat d _ e = absurd (true≢false (sym e))

newline_word : (d : ℕ) (k : Kind) → (is kind.Newline k && is_closed d) ≡ true → is_comment k ≡ false
newline_word d kind.Newline e = refl
newline_word d _ e = absurd (true≢false (sym e))

pub segments_cut : (d k n : ℕ) (xs : List Lexeme) → segments d (taken n k xs) ≡ first_of_them (first_len d xs) k n xs ∷ later (first_len d xs) k n xs
segments_cut d zero n xs =
    ap (λ r. segments d (without_comments r)) (take_zero (numbered_from n xs))
    ∙ ap (λ r. without_comments r ∷ []) (sym (ap (λ r. take (first_len d xs) r) (take_zero (numbered_from n xs)) ∙ take_none (first_len d xs)))
segments_cut d (suc k) n [] = refl
segments_cut d (suc k) n (x ∷ xs) = by (is_comment x.kind) (is kind.Newline x.kind && is_closed d) refl refl (segments_cut (deepen d x.kind) k (n + 1) xs)
  where
    F : ℕ
    F = first_len (deepen d x.kind) xs

    W : List Numbered
    W = taken (n + 1) k xs

    by : (c b : Bool) → is_comment x.kind ≡ c → (is kind.Newline x.kind && is_closed d) ≡ b → segments (deepen d x.kind) W ≡ first_of_them F k (n + 1) xs ∷ later F k (n + 1) xs
        → segments d (cond (not (is_comment x.kind)) (number_of n x ∷ W) W)
        ≡ first_of_them (cond (is kind.Newline x.kind && is_closed d) 0 (F + 1)) (suc k) n (x ∷ xs) ∷ later (cond (is kind.Newline x.kind && is_closed d) 0 (F + 1)) (suc k) n (x ∷ xs)
    by true true comment here rest = absurd (true≢false (sym comment ∙ newline_word d x.kind here))
    by true false comment here rest =
        ap (λ c. segments d (cond (not c) (number_of n x ∷ W) W)) comment
        ∙ ap (λ e. segments e W) (sym (comment_flat x.kind d comment).1)
        ∙ rest
        ∙ ap (λ c. cond (not c) (number_of n x ∷ first_of_them F k (n + 1) xs) (first_of_them F k (n + 1) xs) ∷ later F k (n + 1) xs) (sym comment)
        ∙ ap (λ m. first_of_them m (suc k) n (x ∷ xs) ∷ later m (suc k) n (x ∷ xs)) (sym (add-one F))
        ∙ ap (λ b. first_of_them (cond b 0 (F + 1)) (suc k) n (x ∷ xs) ∷ later (cond b 0 (F + 1)) (suc k) n (x ∷ xs)) (sym here)
    by false true word here rest =
        ap (λ c. segments d (cond (not c) (number_of n x ∷ W) W)) word
        ∙ ap (λ b. cond b ([] ∷ segments (deepen d x.kind) W) (onto (number_of n x) (segments (deepen d x.kind) W))) here
        ∙ ap (λ e. [] ∷ segments e W) (newline_flat d x.kind here)
        ∙ ap (λ b. first_of_them (cond b 0 (F + 1)) (suc k) n (x ∷ xs) ∷ later (cond b 0 (F + 1)) (suc k) n (x ∷ xs)) (sym here)
    by false false word here rest =
        ap (λ c. segments d (cond (not c) (number_of n x ∷ W) W)) word
        ∙ ap (λ b. cond b ([] ∷ segments (deepen d x.kind) W) (onto (number_of n x) (segments (deepen d x.kind) W))) here
        ∙ ap (onto (number_of n x)) rest
        ∙ ap (λ c. cond (not c) (number_of n x ∷ first_of_them F k (n + 1) xs) (first_of_them F k (n + 1) xs) ∷ later F k (n + 1) xs) (sym word)
        ∙ ap (λ m. first_of_them m (suc k) n (x ∷ xs) ∷ later m (suc k) n (x ∷ xs)) (sym (add-one F))
        ∙ ap (λ b. first_of_them (cond b 0 (F + 1)) (suc k) n (x ∷ xs) ∷ later (cond b 0 (F + 1)) (suc k) n (x ∷ xs)) (sym here)

take_take : {X : Type 0} (m k : ℕ) (xs : List X) → take m (take k xs) ≡ take (min m k) xs
take_take m k [] = ap (take m) (take_none k) ∙ take_none m ∙ sym (take_none (min m k))
take_take zero k (x ∷ xs) = take_zero (take k (x ∷ xs)) ∙ sym (ap (λ j. take j (x ∷ xs)) (zero_min k))
  where
    zero_min : (j : ℕ) → min 0 j ≡ 0
    zero_min j = omega arith
take_take (suc m) zero (x ∷ xs) = sym (ap (λ j. take j (x ∷ xs)) (min_zero m))
  where
    min_zero : (j : ℕ) → min (suc j) 0 ≡ 0
    min_zero j = omega arith
take_take (suc m) (suc k) (x ∷ xs) = let s : min (suc m) (suc k) ≡ suc (min m k) = omega arith in ap (λ r. x ∷ r) (take_take m k xs) ∙ ap (λ j. take j (x ∷ xs)) (sym s)

-- the later segments under a function that gives nothing for an empty list
later_segments : (f : List Numbered → List Item) → f [] ≡ [] → (m k n : ℕ) (xs : List Lexeme)
    → flat_map f (later m k n xs) ≡ flat_map f (segments 0 (taken (n + m + 1) (k - m - 1) (drop (m + 1) xs)))
later_segments f none m zero n xs =
    let z : 0 - m - 1 ≡ 0 = omega arith in
    sym (ap (λ j. flat_map f (segments 0 (taken (n + m + 1) j (drop (m + 1) xs)))) z
    ∙ ap (λ r. flat_map f (segments 0 (without_comments r))) (take_zero (numbered_from (n + m + 1) (drop (m + 1) xs))) ∙ ap (λ r. r ++ []) none)
later_segments f none m (suc k) n [] =
    sym (ap (λ r. flat_map f (segments 0 (taken (n + m + 1) (suc k - m - 1) r))) (drop-nil {A = Lexeme} (m + 1)) ∙ ap (λ r. flat_map f (segments 0 (without_comments r))) (take_none (suc k - m - 1)) ∙ ap (λ r. r ++ []) none)
later_segments f none zero (suc k) n (x ∷ xs) =
    let a : n + 0 + 1 ≡ n + 1 = omega arith in
    let b : suc k - 0 - 1 ≡ k = omega arith in
    let c : 0 + 1 ≡ suc 0 = omega arith in
    ap₂ (λ i j. flat_map f (segments 0 (taken i j xs))) (sym a) (sym b) ∙ ap (λ j. flat_map f (segments 0 (taken (n + 0 + 1) (suc k - 0 - 1) (drop j (x ∷ xs))))) (sym c)
later_segments f none (suc m) (suc k) n (x ∷ xs) =
    let a : n + suc m + 1 ≡ n + 1 + m + 1 = omega arith in
    let b : suc k - suc m - 1 ≡ k - m - 1 = omega arith in
    let c : suc m + 1 ≡ suc (m + 1) = omega arith in
    later_segments f none m k (n + 1) xs
    ∙ ap₂ (λ i j. flat_map f (segments 0 (taken i j (drop (m + 1) xs)))) (sym a) (sym b)
    ∙ ap (λ j. flat_map f (segments 0 (taken (n + suc m + 1) (suc k - suc m - 1) (drop j (x ∷ xs))))) (sym c)

pub first_segment : (f : List Numbered → List Item) → f [] ≡ [] → (ts : List Lexeme) (start to end : ℕ) → start < to → end ≡ min (newline_from ts 0 start) to
    → flat_map f (segments 0 (words ts start to)) ≡ f (words ts start end) ++ flat_map f (segments 0 (words ts (end + 1) to))
first_segment f none ts start to end h is =
    ap (flat_map f) (segments_cut 0 (to - start) start xs)
    ∙ ap₂ (λ x y. f x ++ y) one (later_segments f none F (to - start) start xs ∙ rest (cases F (to - start)))
  where
    xs : List Lexeme
    xs = drop start ts

    F : ℕ
    F = first_len 0 xs

    one : first_of_them F (to - start) start xs ≡ words ts start end
    one = let e : min F (to - start) ≡ end - start = omega (arith, is, h) in ap without_comments (take_take F (to - start) (numbered_from start xs)) ∙ ap (λ j. without_comments (take j (numbered_from start xs))) e

    cases : (a b : ℕ) → (a < b) ⊎ (b ≤ a)
    cases a b = cases_lt a b

    rest : (F < to - start) ⊎ (to - start ≤ F) → flat_map f (segments 0 (taken (start + F + 1) (to - start - F - 1) (drop (F + 1) xs))) ≡ flat_map f (segments 0 (words ts (end + 1) to))
    rest (inl less) =
        let a : start + F + 1 ≡ end + 1 = omega (arith, is, less) in
        let b : to - start - F - 1 ≡ to - (end + 1) = omega (arith, is, less) in
        let c : start + (F + 1) ≡ end + 1 = omega (arith, is, less) in
        ap₂ (λ i j. flat_map f (segments 0 (taken i j (drop (F + 1) xs)))) a b
        ∙ ap (λ r. flat_map f (segments 0 (taken (end + 1) (to - (end + 1)) r))) (drop-drop (F + 1) start ts ∙ ap (λ j. drop j ts) c)
    rest (inr more) =
        let b : to - start - F - 1 ≡ 0 = omega (arith, is, more) in
        ap (λ j. flat_map f (segments 0 (taken (start + F + 1) j (drop (F + 1) xs)))) b
        ∙ ap (λ r. flat_map f (segments 0 (without_comments r))) (take_zero (numbered_from (start + F + 1) (drop (F + 1) xs)))
        ∙ ap (λ r. flat_map f (segments 0 r)) (sym (words_none ts (end + 1) to (omega (arith, is, more, h))))
