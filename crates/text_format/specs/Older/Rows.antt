-- The grammar before names with `::`: no row read that class, so no `path` was ever expected. Everything else was as it
-- is now, so only the definitions that depend on the rows are repeated (`Predictor` of `hcl_syntax`).
use Rattle.std.specs.Prelude.{◌≡◌, ℕ, Bool, true, false, List, [], ◌∷◌, Option, None, if◌then◌else◌}
use Rattle.hcl_tokens.specs.Lexemes.{Lexeme}
use Rattle.hcl_grammar.specs.declared.class.Class.{Class}
use Rattle.hcl_grammar.specs.declared.class.Class.TheVariants.{ColonColon}
use Rattle.hcl_grammar.specs.declared.class.Lookahead.{Lookahead}
use Rattle.hcl_grammar.specs.declared.expected.Newlines.{Newlines}
use Rattle.hcl_grammar.specs.declared.expected.Newlines.TheVariants.{Seen}
use Rattle.hcl_grammar.specs.declared.refusal.Refusal.{Refusal}
use Rattle.hcl_grammar.specs.declared.refusal.Refusal.TheVariants.{UnexpectedToken}
use Rattle.hcl_grammar.specs.Classes.{drops, lookaheads}
use Rattle.hcl_grammar.specs.Grammar.{Symbol, Marked, ◌at◌, file, Action, none, row}
use Rattle.hcl_grammar.specs.Predictor.{ending, Effect, on, stop, row_effect, next}

abbrev pub is_path_sign : Class → Bool
is_path_sign ColonColon = true
is_path_sign _ = false

abbrev pub was_row : Symbol → Newlines → Lookahead → Action
was_row s m t = if is_path_sign t.class then none else row s m t

abbrev pub was_turn : ℕ → List Marked → Lookahead → Effect
was_turn count [] t = stop (UnexpectedToken t.number)
was_turn count (s at m ∷ ss) t =
    if drops m t.class then on count (s at m ∷ ss)
    else row_effect count (was_row s m t) ss (was_turn count ss t) t

abbrev pub was_run : ℕ → List Marked → List Lookahead → Option Refusal
was_run count ss [] = ending ss
was_run count ss (t ∷ ts) = next (was_turn count ss t) (λ o rest. was_run o rest ts)

abbrev pub WasAccepted : List Lexeme → Type 0
WasAccepted tokens = was_run 0 (file at Seen ∷ []) (lookaheads tokens) ≡ None
