-- The predictor: the grammar's table applied to a whole list of tokens, one after another, with the symbols that are
-- still expected as its state. It works as table-driven parsers with one token of lookahead do in textbooks; the bound
-- `max_directives` on open directives is our own choice.
use Rattle.std.specs.Prelude.{ℕ, ◌+◌, ◌-◌, nat_lt, List, [], ◌∷◌, ◌++◌, Option, Some, None, if◌then◌else◌}
use Rattle.hcl_grammar.specs.declared.class.Lookahead.{Lookahead}
use Rattle.hcl_grammar.specs.declared.expected.Newlines.TheVariants.{Seen}
use Rattle.hcl_grammar.specs.declared.refusal.Refusal.{Refusal}
use Rattle.hcl_grammar.specs.declared.refusal.Refusal.TheVariants.{UnexpectedToken, UnexpectedEnd, TooDeep}
use Rattle.hcl_grammar.specs.Classes.{drops}
use Rattle.hcl_grammar.specs.Grammar.{Marked, ◌at◌, file, Action, none, nothing, reads, opens, closes, row, ends}

-- why the end of input is refused in a state, or none
abbrev pub ending : List Marked → Option Refusal
ending [] = None
ending (s at m ∷ ss) = if ends s then ending ss else Some UnexpectedEnd

-- The effect of a token: the number of open directives and the symbols after it, or a refusal.
pub data Effect : Type 0 where
  on : ℕ → List Marked → Effect
  stop : Refusal → Effect

-- how many directives may be open
abbrev pub max_directives : ℕ
max_directives = 256

-- a directive opens, unless `max_directives` are open
abbrev pub opening_directive : ℕ → ℕ → List Marked → Effect
opening_directive count n ss =
    if nat_lt count max_directives then on (count + 1) ss else stop (TooDeep n)

-- the effect of the first symbol's row; `passed` is the effect of the other symbols
abbrev pub row_effect : ℕ → Action → List Marked → Effect → Lookahead → Effect
row_effect count none ss passed t = stop (UnexpectedToken t.number)
row_effect count nothing ss passed t = passed
row_effect count (reads xs) ss passed t = on count (xs ++ ss)
row_effect count (opens n xs) ss passed t = opening_directive count n (xs ++ ss)
row_effect count (closes xs) ss passed t = on (count - 1) (xs ++ ss)

-- the effect of one token
abbrev pub effect : ℕ → List Marked → Lookahead → Effect
effect count [] t = stop (UnexpectedToken t.number)
effect count (s at m ∷ ss) t =
    if drops m t.class then on count (s at m ∷ ss)
    else row_effect count (row s m t) ss (effect count ss t) t

abbrev pub next : Effect → (ℕ → List Marked → Option Refusal) → Option Refusal
next (on count ss) go = go count ss
next (stop f) go = Some f

-- Why the tokens are refused from a state, or none if they are accepted; the state is the number of open directives and
-- the symbols.
unfoldable pub run : ℕ → List Marked → List Lookahead → Option Refusal
run count ss [] = ending ss
run count ss (t ∷ ts) = next (effect count ss t) (λ o rest. run o rest ts)

-- why the tokens are no file, or none
abbrev pub refusal_of : List Lookahead → Option Refusal
refusal_of ts = run 0 (file at Seen ∷ []) ts
