-- Operands of a few tokens, and the expressions that are one of them.
use Rattle.std.proofs.Common.{◌&&◌, ◌≡◌, length, arith, ℕ, Bool, true, false, List, [], ◌∷◌, Option, Some, None, cond, refl, sym, ap, ◌∙◌}
use Rattle.std.proofs.lemmas.Bool.{false≢true}
use Rattle.std.specs.Option.{IfSome}
use Rattle.hcl_grammar.specs.declared.class.Lookahead.{Lookahead}
use Rattle.hcl_grammar.specs.declared.class.Class.{Class}
use Rattle.hcl_grammar.specs.declared.class.Class.TheVariants.{Ident, Number, Dot, Lit, QuoteOpen, QuoteClose, Newline, Comma, ParenClose, BracketClose, BraceClose, SeqClose, Assign, Arrow, Colon, Ellipsis}
use Rattle.hcl_grammar.specs.declared.expected.Newlines.{Newlines}
use Rattle.hcl_grammar.specs.declared.expected.Newlines.TheVariants.{Seen, Dropped}
use Rattle.hcl_grammar.specs.Classes.{is_trivia, drops}
use Rattle.hcl_grammar.specs.declared.expected.Terminal.TheVariants.{EndQuote}
use Rattle.hcl_grammar.specs.Grammar.{◌at◌, the, nothing, expr, after, after_ident, parts, step, row_of}
use Rattle.hcl_syntax.specs.Inner.Cursors.{past_newlines, Looks}
use Rattle.hcl_syntax.specs.Inner.ShortOperands.{ends_expression, is_short_operand, is_opening_quote, is_dot, is_identifier, is_quoted, ExpressionEnds, AreSteps, IsQuoted, IsOperand}
use Rattle.hcl_syntax.proofs.CursorStepLemmas.{reading, vanishing, onward, beside, done}

-- the rows for a token that ends an expression
record Ends (m : Newlines) (k : Class) : Type 0 where
  pub kept : drops m k ≡ false
  pub seen : is_trivia k ≡ false
  pub after_ident : row_of after_ident m 0 k ≡ nothing
  pub after : row_of after m 0 k ≡ nothing

ended : (m : Newlines) (k : Class) → ends_expression m k ≡ true → Ends m k
ended Seen Newline h = record { kept = refl; seen = refl; after_ident = refl; after = refl }
ended Dropped Newline h = absurd (false≢true h)
ended Seen Comma h = record { kept = refl; seen = refl; after_ident = refl; after = refl }
ended Dropped Comma h = record { kept = refl; seen = refl; after_ident = refl; after = refl }
ended Seen ParenClose h = record { kept = refl; seen = refl; after_ident = refl; after = refl }
ended Dropped ParenClose h = record { kept = refl; seen = refl; after_ident = refl; after = refl }
ended Seen BracketClose h = record { kept = refl; seen = refl; after_ident = refl; after = refl }
ended Dropped BracketClose h = record { kept = refl; seen = refl; after_ident = refl; after = refl }
ended Seen BraceClose h = record { kept = refl; seen = refl; after_ident = refl; after = refl }
ended Dropped BraceClose h = record { kept = refl; seen = refl; after_ident = refl; after = refl }
ended Seen SeqClose h = record { kept = refl; seen = refl; after_ident = refl; after = refl }
ended Dropped SeqClose h = record { kept = refl; seen = refl; after_ident = refl; after = refl }
ended Seen Assign h = record { kept = refl; seen = refl; after_ident = refl; after = refl }
ended Dropped Assign h = record { kept = refl; seen = refl; after_ident = refl; after = refl }
ended Seen Arrow h = record { kept = refl; seen = refl; after_ident = refl; after = refl }
ended Dropped Arrow h = record { kept = refl; seen = refl; after_ident = refl; after = refl }
ended Seen Colon h = record { kept = refl; seen = refl; after_ident = refl; after = refl }
ended Dropped Colon h = record { kept = refl; seen = refl; after_ident = refl; after = refl }
ended Seen Ellipsis h = record { kept = refl; seen = refl; after_ident = refl; after = refl }
ended Dropped Ellipsis h = record { kept = refl; seen = refl; after_ident = refl; after = refl }
ended Seen _ h = absurd (false≢true h)
ended Dropped _ h = absurd (false≢true h)

-- what the grammar sees at a number's token that isn't trivia
seen_there : (l rest : List Lookahead) (t : Lookahead) (b : Bool) → b ≡ false → l ≡ cond b rest (t ∷ rest) → l ≡ t ∷ rest
seen_there l rest t b untold is = is ∙ ap (λ v. cond v rest (t ∷ rest)) untold

-- a first token that isn't a dropped newline
looked : (m : Newlines) (old left : List Lookahead) (t : Lookahead) → old ≡ t ∷ left → drops m t.class ≡ false → Looks m old t left
looked m old left t is shows = record { is = ap (past_newlines m) is ∙ ap (λ v. cond v (past_newlines m left) (t ∷ left)) shows; kept = shows }

-- ---- steps

module _ (m : Newlines) (left : List Lookahead) (e : ExpressionEnds m left) where
  end_looks : Looks m left e.token e.more
  end_looks = looked m left e.more e.token e.is (ended m e.token.class e.ends).kept

  stays : left ≡ past_newlines m left
  stays = e.is ∙ sym end_looks.is

pub no_steps : (l : List Lookahead) → AreSteps l l
no_steps l = record {
  after_ident = λ m count e. vanishing {s = after_ident} (end_looks m l e) (ended m e.token.class e.ends).after_ident (stays m l e);
  after = λ m count e. vanishing {s = after} (end_looks m l e) (ended m e.token.class e.ends).after (stays m l e);
  shorter = omega arith;
}

-- ---- adjacent tokens

-- no newline, and no token that is skipped
abbrev is_plain : Class → Bool
is_plain (Ident w) = true
is_plain (Number d) = true
is_plain Dot = true
is_plain Lit = true
is_plain QuoteOpen = true
is_plain QuoteClose = true
is_plain _ = false

plain_kept : (m : Newlines) (k : Class) → is_plain k ≡ true → drops m k ≡ false
plain_kept Seen k h = refl
plain_kept Dropped (Ident w) h = refl
plain_kept Dropped (Number d) h = refl
plain_kept Dropped Dot h = refl
plain_kept Dropped Lit h = refl
plain_kept Dropped QuoteOpen h = refl
plain_kept Dropped QuoteClose h = refl
plain_kept Dropped _ h = absurd (false≢true h)

plain_seen : (k : Class) → is_plain k ≡ true → is_trivia k ≡ false
plain_seen (Ident w) h = refl
plain_seen (Number d) h = refl
plain_seen Dot h = refl
plain_seen Lit h = refl
plain_seen QuoteOpen h = refl
plain_seen QuoteClose h = refl
plain_seen _ h = absurd (false≢true h)

-- what the grammar sees from a token on
abbrev pub SeenFrom : Lookahead → List Lookahead → List Lookahead → Type 0
SeenFrom t l rest = l ≡ cond (is_trivia t.class) rest (t ∷ rest)

plain_first : (t : Lookahead) (l rest : List Lookahead) → SeenFrom t l rest → is_plain t.class ≡ true → l ≡ t ∷ rest
plain_first t l rest seen h = seen_there l rest t _ (plain_seen t.class h) seen

plain_looks : (m : Newlines) (t : Lookahead) (l rest : List Lookahead) → SeenFrom t l rest → is_plain t.class ≡ true → Looks m l t rest
plain_looks m t l rest seen h = looked m l rest t (plain_first t l rest seen h) (plain_kept m t.class h)

-- ---- more steps

module _ (d i : Lookahead) (l0 l1 l2 left : List Lookahead) (first : SeenFrom d l0 l1) (second : SeenFrom i l1 l2) (more : AreSteps l2 left) where
  step_by : (k c : Class) → d.class ≡ k → i.class ≡ c → (is_dot k && is_identifier c) ≡ true → AreSteps l0 left
  step_by Dot (Ident w) e f h =
      let dot : is_plain d.class ≡ true = ap is_plain e in
      let name : is_plain i.class ≡ true = ap is_plain f in
      record {
        after_ident = λ m count ends. reading {s = after_ident} (plain_looks m d l0 l1 first dot) (ap (row_of after_ident m 0) e) (onward {a = tt {0}} (beside (after at m ∷ []) (reading {s = step} (plain_looks m i l1 l2 second name) (ap (row_of step m 0) f) done)) (more.after m count ends));
        after = λ m count ends. reading {s = after} (plain_looks m d l0 l1 first dot) (ap (row_of after m 0) e) (onward {a = tt {0}} (beside (after at m ∷ []) (reading {s = step} (plain_looks m i l1 l2 second name) (ap (row_of step m 0) f) done)) (more.after m count ends));
        shorter = omega (arith, more.shorter, ap length (plain_first d l0 l1 first dot), ap length (plain_first i l1 l2 second name));
      }
  step_by _ _ e f h = absurd (false≢true h)

  pub one_step : is_dot d.class ≡ true → is_identifier i.class ≡ true → AreSteps l0 left
  one_step g h = step_by d.class i.class refl refl (ap (λ b. b && is_identifier i.class) g ∙ h)

-- ---- operands

module _ (t : Lookahead) (old left : List Lookahead) where
  short_by : (rest : List Lookahead) → SeenFrom t old rest → AreSteps rest left → (k : Class) → t.class ≡ k → is_short_operand k ≡ true → IsOperand old left
  short_by rest seen steps (Ident w) e h =
      let plain : is_plain t.class ≡ true = ap is_plain e in
      record {
        reads = λ m count ends. reading {s = expr} (plain_looks m t old rest seen plain) (ap (row_of expr m 0) e) (steps.after_ident m count ends);
        shorter = omega (arith, steps.shorter, ap length (plain_first t old rest seen plain));
      }
  short_by rest seen steps (Number d) e h =
      let plain : is_plain t.class ≡ true = ap is_plain e in
      record {
        reads = λ m count ends. reading {s = expr} (plain_looks m t old rest seen plain) (ap (row_of expr m 0) e) (steps.after m count ends);
        shorter = omega (arith, steps.shorter, ap length (plain_first t old rest seen plain));
      }
  short_by rest seen steps _ e h = absurd (false≢true h)

  pub short_operand : (rest : List Lookahead) → SeenFrom t old rest → AreSteps rest left → is_short_operand t.class ≡ true → IsOperand old left
  short_operand rest seen steps h = short_by rest seen steps t.class refl h

  quoted_from : (rest : List Lookahead) → SeenFrom t old rest → IsQuoted rest left → (k : Class) → t.class ≡ k → is_opening_quote k ≡ true → IsOperand old left
  quoted_from rest seen quoted QuoteOpen e h =
      let plain : is_plain t.class ≡ true = ap is_plain e in
      record {
        reads = λ m count ends. reading {s = expr} (plain_looks m t old rest seen plain) (ap (row_of expr m 0) e) (quoted.parts m count ends);
        shorter = omega (arith, quoted.shorter, ap length (plain_first t old rest seen plain));
      }
  quoted_from rest seen quoted _ e h = absurd (false≢true h)

  pub quoted_operand : (rest : List Lookahead) → SeenFrom t old rest → IsQuoted rest left → is_opening_quote t.class ≡ true → IsOperand old left
  quoted_operand rest seen quoted h = quoted_from rest seen quoted t.class refl h

module _ (t u : Lookahead) (old rest left : List Lookahead) (first : SeenFrom t old rest) (second : SeenFrom u rest left) where
  quoted_by : (k c : Class) → t.class ≡ k → u.class ≡ c → is_quoted k c ≡ true → IsQuoted old left
  quoted_by Lit QuoteClose e f h =
      let lit : is_plain t.class ≡ true = ap is_plain e in
      let close : is_plain u.class ≡ true = ap is_plain f in
      record {
        parts = λ m count ends.
            let closes : Looks m rest u left = plain_looks m u rest left second close in
            onward {a = tt {0}} (beside (the EndQuote at m ∷ after at m ∷ []) (reading {s = parts} (plain_looks m t old rest first lit) (ap (row_of parts m t.number) e) (vanishing {s = parts} closes (ap (row_of parts m u.number) f) (plain_first u rest left second close ∙ sym closes.is))))
            (onward {a = tt {0}} (beside (after at m ∷ []) (reading {s = the EndQuote} closes (ap (row_of (the EndQuote) m 0) f) done)) ((no_steps left).after m count ends));
        shorter = omega (arith, ap length (plain_first t old rest first lit), ap length (plain_first u rest left second close));
      }
  quoted_by _ _ e f h = absurd (false≢true h)

  pub quoted_rest : is_quoted t.class u.class ≡ true → IsQuoted old left
  quoted_rest h = quoted_by t.class u.class refl refl h

-- a property of an answer, if there is one
pub if_some : (r : Option ℕ) (P Q : ℕ → Type 0) → ((n : ℕ) → P n → Q n) → IfSome r P → IfSome r Q
if_some None P Q h p = tt
if_some (Some n) P Q h p = h n p

-- the token that ends an expression has a number
pub expression_ends : (m : Newlines) (u : Lookahead) (left more : List Lookahead) → SeenFrom u left more → ends_expression m u.class ≡ true → ExpressionEnds m left
expression_ends m u left more seen ends = record { token = u; more = more; is = seen_there left more u _ (ended m u.class ends).seen seen; ends = ends }
