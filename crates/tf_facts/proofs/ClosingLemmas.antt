-- Closers before closing quotes, token by token from right to left.
use Rattle.std.proofs.Common.{◌≡◌, ◌∙◌, ap, sym, refl, ℕ, suc, zero, ◌+◌, ◌-◌, Bool, true, false, cond, List, [], ◌∷◌, ◌++◌, get_or, reverse, arith}
use Rattle.std.specs.Prelude.{◌==◌, ◌&&◌, Some, slice_get}
use Rattle.std.proofs.lemmas.List.{reverse-append}
use Rattle.std.proofs.lemmas.Bool.{false≢true}
use Rattle.hcl_tokens.specs.Kinds.{is}
use Rattle.hcl_tokens.specs.Lexemes.{Lexeme}
use Rattle.hcl_tokens.specs.declared.token.Kind.{Kind}
use Rattle.hcl_tokens.specs.declared.token.Kind.TheVariants as kind
use Rattle.hcl_tokens.specs.Balanced.{closer_count}
use Rattle.hcl_grammar.specs.Items.{deepen, is_closed}
use Rattle.hcl_grammar.specs.Numbered.{is_passed_over}
use Rattle.tf_facts.specs.Patterns.{begins_with_close, after_closer}
use Rattle.tf_facts.specs.Seen.{seen_from}
use Rattle.tf_facts.specs.Inner.Closings.{AreAhead, closes_before_quote, role_of, quote_from}
use Rattle.tf_facts.specs.declared.role.Role.{Role}
use Rattle.tf_facts.specs.declared.role.Role.TheVariants as part
use Rattle.tf_facts.proofs.SeenLemmas.{seen_here}

-- the effects of a part of the walk fit the kind of a significant token
pub record Says (k : Kind) (dot quote opener closer : Bool) (move : ℕ → ℕ) : Type 0 where
  pub seen : is_passed_over k ≡ false
  pub dot_is : is kind.Dot k ≡ dot
  pub quote_is : is kind.QuoteOpen k ≡ quote
  pub closer_is : (closer_count k == 1) ≡ closer
  pub moves : (depth : ℕ) → deepen depth k ≡ move depth
  -- only an opener opens an interpolation
  pub opened : (here known : Bool) → (opener ≡ true → here ≡ known) → (is kind.InterpOpen k && here) ≡ (is kind.InterpOpen k && known)

flat : (d : ℕ) → d + 0 - 0 ≡ d
flat d = omega arith

up : (d : ℕ) → d + 1 - 0 ≡ d + 1
up d = omega arith

down : (d : ℕ) → d + 0 - 1 ≡ d - 1
down d = omega arith

abbrev rank : Role → ℕ
rank part.PassedOver = 0
rank part.LineComment = 1
rank part.Dot = 2
rank part.QuoteOpen = 3
rank part.Opens = 4
rank part.Closes = 5
rank part.Plain = 6

-- whether the second is the first, by computation
abbrev is_part : Role → Role → Bool
is_part p q = rank p == rank q

pub at_dot : (k : Kind) → role_of k ≡ part.Dot → Says k true false false false (λ d. d)
at_dot kind.Dot e = record { seen = refl; dot_is = refl; quote_is = refl; closer_is = refl; moves = flat; opened = λ here known h. refl }
at_dot _ e = absurd (false≢true (ap (is_part part.Dot) e))

pub at_quote : (k : Kind) → role_of k ≡ part.QuoteOpen → Says k false true false false (λ d. d)
at_quote kind.QuoteOpen e = record { seen = refl; dot_is = refl; quote_is = refl; closer_is = refl; moves = flat; opened = λ here known h. refl }
at_quote _ e = absurd (false≢true (ap (is_part part.QuoteOpen) e))

pub at_opener : (k : Kind) → role_of k ≡ part.Opens → Says k false false true false (λ d. d + 1)
at_opener kind.ParenOpen e = record { seen = refl; dot_is = refl; quote_is = refl; closer_is = refl; moves = up; opened = λ here known h. refl }
at_opener kind.BracketOpen e = record { seen = refl; dot_is = refl; quote_is = refl; closer_is = refl; moves = up; opened = λ here known h. refl }
at_opener kind.BraceOpen e = record { seen = refl; dot_is = refl; quote_is = refl; closer_is = refl; moves = up; opened = λ here known h. refl }
at_opener kind.InterpOpen e = record { seen = refl; dot_is = refl; quote_is = refl; closer_is = refl; moves = up; opened = λ here known h. h refl }
at_opener kind.ControlOpen e = record { seen = refl; dot_is = refl; quote_is = refl; closer_is = refl; moves = up; opened = λ here known h. refl }
at_opener _ e = absurd (false≢true (ap (is_part part.Opens) e))

pub at_closer : (k : Kind) → role_of k ≡ part.Closes → Says k false false false true (λ d. d - 1)
at_closer kind.ParenClose e = record { seen = refl; dot_is = refl; quote_is = refl; closer_is = refl; moves = down; opened = λ here known h. refl }
at_closer kind.BracketClose e = record { seen = refl; dot_is = refl; quote_is = refl; closer_is = refl; moves = down; opened = λ here known h. refl }
at_closer kind.BraceClose e = record { seen = refl; dot_is = refl; quote_is = refl; closer_is = refl; moves = down; opened = λ here known h. refl }
at_closer kind.SeqClose e = record { seen = refl; dot_is = refl; quote_is = refl; closer_is = refl; moves = down; opened = λ here known h. refl }
at_closer _ e = absurd (false≢true (ap (is_part part.Closes) e))

pub at_plain : (k : Kind) → role_of k ≡ part.Plain → Says k false false false false (λ d. d)
at_plain kind.LineComment e = absurd (false≢true (ap (is_part part.Plain) e))
at_plain kind.InlineComment e = absurd (false≢true (ap (is_part part.Plain) e))
at_plain kind.Blank e = absurd (false≢true (ap (is_part part.Plain) e))
at_plain kind.Newline e = absurd (false≢true (ap (is_part part.Plain) e))
at_plain kind.Dot e = absurd (false≢true (ap (is_part part.Plain) e))
at_plain kind.QuoteOpen e = absurd (false≢true (ap (is_part part.Plain) e))
at_plain kind.ParenOpen e = absurd (false≢true (ap (is_part part.Plain) e))
at_plain kind.BracketOpen e = absurd (false≢true (ap (is_part part.Plain) e))
at_plain kind.BraceOpen e = absurd (false≢true (ap (is_part part.Plain) e))
at_plain kind.InterpOpen e = absurd (false≢true (ap (is_part part.Plain) e))
at_plain kind.ControlOpen e = absurd (false≢true (ap (is_part part.Plain) e))
at_plain kind.ParenClose e = absurd (false≢true (ap (is_part part.Plain) e))
at_plain kind.BracketClose e = absurd (false≢true (ap (is_part part.Plain) e))
at_plain kind.BraceClose e = absurd (false≢true (ap (is_part part.Plain) e))
at_plain kind.SeqClose e = absurd (false≢true (ap (is_part part.Plain) e))
at_plain _ e = record { seen = refl; dot_is = refl; quote_is = refl; closer_is = refl; moves = flat; opened = λ here known h. refl }

pub past : (k : Kind) → role_of k ≡ part.PassedOver → is_passed_over k ≡ true
past kind.LineComment e = refl
past kind.InlineComment e = refl
past kind.Blank e = refl
past kind.Newline e = refl
past _ e = absurd (false≢true (ap (is_part part.PassedOver) e))

pub past_comment : (k : Kind) → role_of k ≡ part.LineComment → is_passed_over k ≡ true
past_comment kind.LineComment e = refl
past_comment _ e = absurd (false≢true (ap (is_part part.LineComment) e))

-- the walk takes only line comments for line comments
pub no_comment : (k : Kind) (p : Role) → role_of k ≡ p → (part.LineComment ≡ p → ⊥) → is kind.LineComment k ≡ false
no_comment kind.LineComment p e other = absurd (other e)
no_comment _ p e other = refl

and_false : (b : Bool) → (b && false) ≡ false
and_false true = refl
and_false false = refl

module _ (ts : List Lexeme) (n : ℕ) (t : Lexeme) (e : slice_get ts n ≡ Some t) where
  -- the step at a significant token
  from_here : (d : ℕ) → is_passed_over t.kind ≡ false → closes_before_quote ts d n
      ≡ begins_with_close (cond (is_closed d && (closer_count t.kind == 1)) (seen_from ts (n + 1)) (after_closer (deepen d t.kind) (seen_from ts (n + 1))))
  from_here d seen = ap (λ s. begins_with_close (after_closer d s)) (seen_here ts n t e seen)

  from_next : (d next : ℕ) → is_passed_over t.kind ≡ false → (closer_count t.kind == 1) ≡ false → deepen d t.kind ≡ next → closes_before_quote ts d n ≡ closes_before_quote ts next (n + 1)
  from_next d next seen plain moved =
      from_here d seen
      ∙ ap (λ b. begins_with_close (cond (is_closed d && b) (seen_from ts (n + 1)) (after_closer (deepen d t.kind) (seen_from ts (n + 1))))) plain
      ∙ ap (λ b. begins_with_close (cond b (seen_from ts (n + 1)) (after_closer (deepen d t.kind) (seen_from ts (n + 1))))) (and_false (is_closed d))
      ∙ ap (λ m. begins_with_close (after_closer m (seen_from ts (n + 1)))) moved

  pub passes : (dot quote : Bool) (ahead : List Bool) → Says t.kind dot quote false false (λ d. d) → AreAhead ts ahead (n + 1) → AreAhead ts ahead n
  passes dot quote ahead m h d = h d ∙ sym (from_next d d m.seen m.closer_is (m.moves d))

  pub opens : (old new : List Bool) → Says t.kind false false true false (λ d. d + 1) → ((d : ℕ) (c : Bool) → get_or (reverse new) d c ≡ get_or (reverse old) (suc d) c) → AreAhead ts old (n + 1) → AreAhead ts new n
  opens old new m popped h d =
      let s : d + 1 ≡ suc d = omega arith in
      popped d false ∙ h (suc d) ∙ sym (from_next d (suc d) m.seen m.closer_is (m.moves d ∙ s))

  pub closes : (old new : List Bool) (quote : Bool) → Says t.kind false false false true (λ d. d - 1) → quote ≡ quote_from ts (n + 1) → new ≡ old ++ quote ∷ [] → AreAhead ts old (n + 1) → AreAhead ts new n
  closes old new quote m known pushed h d = ap (λ r. get_or r d false) (ap reverse pushed ∙ reverse-append old (quote ∷ [])) ∙ by d
    where
      shut : (k : ℕ) → closes_before_quote ts k n ≡ begins_with_close (cond (is_closed k && true) (seen_from ts (n + 1)) (after_closer (k - 1) (seen_from ts (n + 1))))
      shut k =
          from_here k m.seen
          ∙ ap (λ b. begins_with_close (cond (is_closed k && b) (seen_from ts (n + 1)) (after_closer (deepen k t.kind) (seen_from ts (n + 1))))) m.closer_is
          ∙ ap (λ j. begins_with_close (cond (is_closed k && true) (seen_from ts (n + 1)) (after_closer j (seen_from ts (n + 1))))) (m.moves k)

      by : (k : ℕ) → get_or (quote ∷ reverse old) k false ≡ closes_before_quote ts k n
      by zero = known ∙ sym (shut zero)
      by (suc k) =
          let s : suc k - 1 ≡ k = omega arith in
          h k ∙ sym (shut (suc k) ∙ ap (λ j. begins_with_close (after_closer j (seen_from ts (n + 1)))) s)
