use Rattle.std.proofs.Common.{◌≡◌, ℕ, ◌+◌, ◌≤◌, Bool, true, false, List, [], ◌∷◌, length, arith, refl, cond, subst, sym, ap, ◌∙◌, Some, suc, ◌<◌, get_or, drop, drop-cons}
use Rattle.std.specs.Prelude.{slice_get}
use Rattle.std.proofs.lemmas.Option.{slice_get_within, get_or_from_slice_get}
use Rattle.std.proofs.lemmas.List.{length-drop}
use Rattle.hcl_tokens.specs.Lexemes.{Lexeme}
use Rattle.hcl_grammar.specs.Classes.{class_of, lookaheads_from}
use Rattle.hcl_grammar.specs.declared.class.Lookahead.{Lookahead}
use Rattle.hcl_grammar.specs.declared.class.Class.{Class}
use Rattle.hcl_grammar.specs.declared.expected.Newlines.{Newlines}
use Rattle.hcl_grammar.specs.Classes.{is_trivia, drops}
use Rattle.hcl_syntax.specs.Inner.Cursors.{past_newlines, first, after_first}

pub length-lookaheads : (n : ℕ) (ts : List Lexeme) → length (lookaheads_from n ts) ≤ length ts
length-lookaheads n [] = omega arith
length-lookaheads n (t ∷ ts) = elim (is_trivia (class_of t)) as (λ b. length (cond b (lookaheads_from (n + 1) ts) (record { class = class_of t; number = n } ∷ lookaheads_from (n + 1) ts)) ≤ length (t ∷ ts)) [ true ↦ omega (arith, length-lookaheads (n + 1) ts) | false ↦ omega (arith, length-lookaheads (n + 1) ts) ]

-- the token at a number within the list
pub at-number : (ts : List Lexeme) (n : ℕ) (t : Lexeme) (c : Class) → slice_get ts n ≡ Some t → c ≡ class_of t →
    lookaheads_from n (drop n ts) ≡ cond (is_trivia c) (lookaheads_from (n + 1) (drop (n + 1) ts)) (record { class = c; number = n } ∷ lookaheads_from (n + 1) (drop (n + 1) ts))
at-number ts n t c e k =
    let within : n < length ts = slice_get_within ts n t e in
    let got : get_or ts n t ≡ t = get_or_from_slice_get ts n t t e in
    let more : suc n ≡ n + 1 = omega arith in
    let front : drop n ts ≡ t ∷ drop (n + 1) ts = drop-cons ts n t within ∙ ap (λ x. x ∷ drop (suc n) ts) got ∙ ap (λ j. t ∷ drop j ts) more in
    ap (λ l. lookaheads_from n l) front
    ∙ ap (λ x. cond (is_trivia x) (lookaheads_from (n + 1) (drop (n + 1) ts)) (record { class = x; number = n } ∷ lookaheads_from (n + 1) (drop (n + 1) ts))) (sym k)

pub length-past_newlines : (m : Newlines) (ts : List Lookahead) → length (past_newlines m ts) ≤ length ts
length-past_newlines m [] = omega arith
length-past_newlines m (t ∷ ts) = elim (drops m t.class) as (λ b. length (cond b (past_newlines m ts) (t ∷ ts)) ≤ length (t ∷ ts)) [ true ↦ omega (arith, length-past_newlines m ts) | false ↦ omega arith ]

past_newlines-by : (m : Newlines) (t : Lookahead) (ts : List Lookahead) (b : Bool) → drops m t.class ≡ b → past_newlines m ts ≡ past_newlines m (past_newlines m ts) → cond b (past_newlines m ts) (t ∷ ts) ≡ past_newlines m (cond b (past_newlines m ts) (t ∷ ts))
past_newlines-by m t ts true e h = h
past_newlines-by m t ts false e h = sym (ap (λ b. cond b (past_newlines m ts) (t ∷ ts)) e)

pub past_newlines-twice : (m : Newlines) (ts : List Lookahead) → past_newlines m ts ≡ past_newlines m (past_newlines m ts)
past_newlines-twice m [] = refl
past_newlines-twice m (t ∷ ts) = past_newlines-by m t ts (drops m t.class) refl (past_newlines-twice m ts)

pub past_newlines-again : (m : Newlines) (old new : List Lookahead) → new ≡ past_newlines m old → new ≡ past_newlines m new
past_newlines-again m old new e = e ∙ past_newlines-twice m old ∙ ap (λ l. past_newlines m l) (sym e)

-- ---- the tokens after the first that is shown

-- a token at its number, and the next ones that are shown
pub record Passes (all : List Lexeme) (t : Lookahead) (seen : List Lookahead) : Type 0 where
  pub within : t.number < length all
  pub after : lookaheads_from (t.number + 1) (drop (t.number + 1) all) ≡ after_first seen

the_same : (t u : Lookahead) → Some t ≡ Some u → t ≡ u
the_same t u e = cc

pub one_fewer : (seen : List Lookahead) (t : Lookahead) → first seen ≡ Some t → length seen ≡ length (after_first seen) + 1
one_fewer [] t is = absurd (cc)
one_fewer (u ∷ seen) t is = omega arith

module _ (all : List Lexeme) (t : Lookahead) where
  seen_at : (x : Lexeme) (xs : List Lexeme) (n : ℕ) → Bool → List Lookahead
  seen_at x xs n b = cond b (lookaheads_from (n + 1) xs) (record { class = class_of x; number = n } ∷ lookaheads_from (n + 1) xs)

  passed_by : (x : Lexeme) (xs : List Lexeme) (n : ℕ) (b : Bool) → n < length all → drop (n + 1) all ≡ xs →
      (first (lookaheads_from (n + 1) xs) ≡ Some t → Passes all t (lookaheads_from (n + 1) xs)) → first (seen_at x xs n b) ≡ Some t → Passes all t (seen_at x xs n b)
  unfolding seen_at
  passed_by x xs n true lt rest later is = later is
  passed_by x xs n false lt rest later is =
      let same : n ≡ t.number = ap (λ (l : Lookahead). l.number) (the_same (record { class = class_of x; number = n }) t is) in
      record {
        within = subst (λ k. k < length all) same lt;
        after = subst (λ k. lookaheads_from (k + 1) (drop (k + 1) all) ≡ lookaheads_from (n + 1) xs) same (ap (lookaheads_from (n + 1)) rest);
      }

  pub passed : (xs : List Lexeme) (n : ℕ) → drop n all ≡ xs → first (lookaheads_from n xs) ≡ Some t → Passes all t (lookaheads_from n xs)
  unfolding seen_at
  passed [] n e is = absurd (cc)
  passed (x ∷ xs) n e is =
      let lt : n < length all = omega (arith, length-drop n all, ap length e) in
      let more : suc n ≡ n + 1 = omega arith in
      let rest : drop (n + 1) all ≡ xs = ap (λ k. drop k all) (sym more) ∙ ap (drop 1) (sym (drop-cons all n x lt) ∙ e) in
      passed_by x xs n (is_trivia (class_of x)) lt rest (passed xs (n + 1) rest) is
