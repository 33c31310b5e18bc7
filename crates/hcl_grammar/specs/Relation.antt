-- The predictor once more, as a relation by cases: the state after a token, the refusal of a token, and the answer for
-- a whole list. A state is the number of open directives and the expected symbols, the first in front.
use Rattle.std.specs.Prelude.{◌≡◌, ◌<◌, ◌≤◌, ◌+◌, ◌-◌, ℕ, true, false, List, [], ◌∷◌, ◌++◌, Option, Some, None}
use Rattle.hcl_grammar.specs.declared.class.Lookahead.{Lookahead}
use Rattle.hcl_grammar.specs.declared.expected.Newlines.{Newlines}
use Rattle.hcl_grammar.specs.declared.refusal.Refusal.{Refusal}
use Rattle.hcl_grammar.specs.declared.refusal.Refusal.TheVariants.{UnexpectedToken, UnexpectedEnd, TooDeep}
use Rattle.hcl_grammar.specs.Classes.{drops}
use Rattle.hcl_grammar.specs.Predictor.{max_directives}
use Rattle.hcl_grammar.specs.Grammar.{Symbol, Marked, ◌at◌, none, nothing, reads, opens, closes, row, ends}

-- the state after a token
pub data Step : ℕ → List Marked → Lookahead → ℕ → List Marked → Type 0 where
  -- a newline that the first symbol doesn't see
  dropped : (count : ℕ) (s : Symbol) (m : Newlines) (ss : List Marked) (t : Lookahead)
      → drops m t.class ≡ true → Step count (s at m ∷ ss) t count (s at m ∷ ss)
  -- the row of the first symbol reads the token
  read : (count : ℕ) (s : Symbol) (m : Newlines) (xs ss : List Marked) (t : Lookahead)
      → drops m t.class ≡ false → row s m t ≡ reads xs → Step count (s at m ∷ ss) t count (xs ++ ss)
  -- a directive opens
  opened : (count n : ℕ) (s : Symbol) (m : Newlines) (xs ss : List Marked) (t : Lookahead)
      → drops m t.class ≡ false → row s m t ≡ opens n xs → count < max_directives
      → Step count (s at m ∷ ss) t (count + 1) (xs ++ ss)
  -- a directive ends
  closed : (count : ℕ) (s : Symbol) (m : Newlines) (xs ss : List Marked) (t : Lookahead)
      → drops m t.class ≡ false → row s m t ≡ closes xs
      → Step count (s at m ∷ ss) t (count - 1) (xs ++ ss)
  -- the first symbol is removed, and the symbols after it take the token
  gone : (count : ℕ) (s : Symbol) (m : Newlines) (ss : List Marked) (t : Lookahead) (later : ℕ)
      (us : List Marked) → drops m t.class ≡ false → row s m t ≡ nothing → Step count ss t later us
      → Step count (s at m ∷ ss) t later us

-- the token is refused: no state follows it
pub data Refuses : ℕ → List Marked → Lookahead → Refusal → Type 0 where
  nothing_waited_for : (count : ℕ) (t : Lookahead) → Refuses count [] t (UnexpectedToken t.number)
  no_row : (count : ℕ) (s : Symbol) (m : Newlines) (ss : List Marked) (t : Lookahead)
      → drops m t.class ≡ false → row s m t ≡ none
      → Refuses count (s at m ∷ ss) t (UnexpectedToken t.number)
  too_deep : (count n : ℕ) (s : Symbol) (m : Newlines) (xs ss : List Marked) (t : Lookahead)
      → drops m t.class ≡ false → row s m t ≡ opens n xs → max_directives ≤ count
      → Refuses count (s at m ∷ ss) t (TooDeep n)
  past : (count : ℕ) (s : Symbol) (m : Newlines) (ss : List Marked) (t : Lookahead) (r : Refusal)
      → drops m t.class ≡ false → row s m t ≡ nothing → Refuses count ss t r
      → Refuses count (s at m ∷ ss) t r

-- the answer at the end of input, by the state there
pub data Ending : List Marked → Option Refusal → Type 0 where
  complete : Ending [] None
  wanting : (s : Symbol) (m : Newlines) (ss : List Marked) → ends s ≡ false
      → Ending (s at m ∷ ss) (Some UnexpectedEnd)
  ended : (s : Symbol) (m : Newlines) (ss : List Marked) (o : Option Refusal) → ends s ≡ true
      → Ending ss o → Ending (s at m ∷ ss) o

-- the answer for a list of tokens
pub data ComesTo : ℕ → List Marked → List Lookahead → Option Refusal → Type 0 where
  at_end : (count : ℕ) (ss : List Marked) (o : Option Refusal) → Ending ss o → ComesTo count ss [] o
  step : (count : ℕ) (ss : List Marked) (t : Lookahead) (ts : List Lookahead) (later : ℕ)
      (us : List Marked) (o : Option Refusal) → Step count ss t later us → ComesTo later us ts o
      → ComesTo count ss (t ∷ ts) o
  refused : (count : ℕ) (ss : List Marked) (t : Lookahead) (ts : List Lookahead) (r : Refusal)
      → Refuses count ss t r → ComesTo count ss (t ∷ ts) (Some r)
