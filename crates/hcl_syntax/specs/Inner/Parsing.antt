-- The effect of a part of a recursive descent, in terms of the predictor: our own words for the contracts of the
-- parser.
use Rattle.std.specs.Prelude.{◌≡◌, ◌<◌, ℕ, zero, suc, ◌+◌, Bool, true, false, List, [], ◌∷◌, ◌++◌, Option, Some, Result, Ok, Err}
use Rattle.hcl_grammar.specs.declared.class.Lookahead.{Lookahead}
use Rattle.hcl_grammar.specs.declared.class.Class.{Class}
use Rattle.hcl_grammar.specs.declared.class.Class.TheVariants.{Ident, Not, Minus}
use Rattle.hcl_grammar.specs.declared.class.Word.TheVariants.{Else, Endif, Endfor}
use Rattle.hcl_grammar.specs.declared.expected.Section.{Section}
use Rattle.hcl_grammar.specs.declared.expected.Section.TheVariants.{InIf, InElse, InFor}
use Rattle.hcl_syntax.specs.declared.expected.Turning.{Turning}
use Rattle.hcl_syntax.specs.declared.expected.Turning.TheVariants.{Onward, Closing, Inner}
use Rattle.hcl_grammar.specs.declared.expected.Newlines.{Newlines}
use Rattle.hcl_grammar.specs.declared.expected.Newlines.TheVariants.{Seen}
use Rattle.hcl_grammar.specs.declared.expected.Terminal.{Terminal}
use Rattle.hcl_grammar.specs.declared.expected.Terminal.TheVariants.{Separator, EndBrace, EndSequence}
use Rattle.hcl_syntax.specs.declared.expected.Refused.{Refused}
use Rattle.hcl_syntax.specs.declared.expected.Follow.{Follow}
use Rattle.hcl_syntax.specs.declared.expected.Follow.TheVariants.{Operator, Choice, Other}
use Rattle.hcl_grammar.specs.declared.refusal.Refusal.{Refusal}
use Rattle.hcl_grammar.specs.declared.refusal.Refusal.TheVariants.{UnexpectedToken, UnexpectedEnd, TooDeep}
use Rattle.hcl_syntax.specs.Inner.Cursors.{past_newlines, first, Looks}
use Rattle.hcl_grammar.specs.Grammar.{Marked, Action, ◌at◌, ◌then◌, reads, closes, inside, directive, row_of, the, file, body, eol, expr, fits}
use Rattle.hcl_grammar.specs.Predictor.{run}

-- the refusal, or otherwise the answer for the rest
abbrev pub outcome : {A : Type 0} → Result A Refusal → Option Refusal → Option Refusal
outcome (Ok _) o = o
outcome (Err f) o = Some f

-- a result with the refusal that the cursor keeps
abbrev pub with_refusal : {A : Type 0} → Result A Refused → Refusal → Result A Refusal
with_refusal (Ok a) f = Ok a
with_refusal (Err e) f = Err f

-- With the symbols xs first, whatever comes after them, the predictor comes from the old tokens to the new ones with
-- ys in their place, or ends with the refusal.
pub record Advances {A : Type 0} (count : ℕ) (xs : List Marked) (old : List Lookahead) (result : Result A Refusal) (ys : List Marked) (new : List Lookahead) : Type 0 where
  pub same : (after : List Marked) → run count (xs ++ after) old ≡ outcome result (run count (ys ++ after) new)

-- With the symbols xs first and then gone, and one directive fewer open.
pub record Ends {A : Type 0} (count : ℕ) (xs : List Marked) (old : List Lookahead) (result : Result A Refusal) (new : List Lookahead) : Type 0 where
  pub same : (after : List Marked) → run (count + 1) (xs ++ after) old ≡ outcome result (run count after new)

-- With the symbols xs first and then gone.
abbrev pub Parses : ℕ → List Marked → List Lookahead → Result (Unit {0}) Refusal → List Lookahead → Type 0
Parses count xs old result new = Advances count xs old result [] new

-- n times `:` and an expression
abbrev pub pending_choices : Newlines → ℕ → List Marked → List Marked
pending_choices m zero ss = ss
pending_choices m (suc n) ss = the Separator at m ∷ expr at m ∷ pending_choices m n ss

-- the symbols expected after an operand
abbrev pub follow_symbols : Newlines → Follow → List Marked
follow_symbols m Operator = expr at m ∷ []
follow_symbols m Choice = expr at m ∷ the Separator at m ∷ expr at m ∷ []
follow_symbols m Other = []

-- whether another operand is expected
abbrev pub has_next_operand : Follow → Bool
has_next_operand Operator = true
has_next_operand Choice = true
has_next_operand Other = false

abbrev pub after_follow : Newlines → Result Follow Refused → List Marked
after_follow m (Ok f) = follow_symbols m f
after_follow m (Err e) = []

-- The first token was the one that the terminal expects, and was read.
pub record TookTerminal (m : Newlines) (e : Terminal) (old new : List Lookahead) : Type 0 where
  pub token : Lookahead
  pub looks : Looks m old token new
  pub fits : fits e token.class ≡ true

-- The first token, if there is one, is not the one that the terminal expects.
pub record LacksTerminal (m : Newlines) (e : Terminal) (old new : List Lookahead) : Type 0 where
  pub shows : new ≡ past_newlines m old
  pub unfit : (t : Lookahead) → Some t ≡ first new → fits e t.class ≡ false

-- a sign before an operand
abbrev pub is_prefix : Class → Bool
is_prefix Minus = true
is_prefix Not = true
is_prefix _ = false

-- the symbols after a body's items
abbrev pub body_symbols : Bool → List Marked
body_symbols true = body at Seen ∷ the EndBrace at Seen ∷ eol at Seen ∷ []
body_symbols false = []

abbrev pub after_item : Result Bool Refused → List Marked
after_item (Ok opened) = body_symbols opened
after_item (Err e) = []

-- the state in a file, or in a number of blocks of it
abbrev pub bodies : ℕ → List Marked
bodies zero = file at Seen ∷ []
bodies (suc n) = body at Seen ∷ the EndBrace at Seen ∷ eol at Seen ∷ bodies n

-- a refusal names a token of the list, or the end
abbrev pub Names : Refusal → ℕ → Type 0
Names (UnexpectedToken n) count = n < count
Names UnexpectedEnd count = Unit {0}
Names (TooDeep n) count = n < count

-- the effect of a word in a directive
abbrev pub effect_of_word : Section → Class → Turning
effect_of_word InIf (Ident Else) = Onward
effect_of_word InIf (Ident Endif) = Closing
effect_of_word InElse (Ident Endif) = Closing
effect_of_word InFor (Ident Endfor) = Closing
effect_of_word _ _ = Inner

-- the row of a directive in a section, by the effect of its word; `p` is the number of its `%{`
abbrev pub turning_row : Turning → Section → Newlines → ℕ → ℕ → Class → Action
turning_row Onward e m p n c = reads (the EndSequence at m ∷ inside InElse at m ∷ [])
turning_row Closing e m p n c = closes (the EndSequence at m ∷ [])
turning_row Inner e m p n c = row_of (directive p) m n c then (inside e at m ∷ [])
