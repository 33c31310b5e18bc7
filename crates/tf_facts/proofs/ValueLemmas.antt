-- The tokens of a value, one by one.
use Rattle.std.proofs.Common.{◌≡◌, ◌∙◌, ap, sym, ℕ, suc, ◌+◌, ◌-◌, ◌<◌, true, false, cond, List, ◌∷◌, take, drop, arith}
use Rattle.std.specs.Prelude.{Some, filter, slice_get}
use Rattle.hcl_tokens.specs.Lexemes.{Lexeme}
use Rattle.hcl_grammar.specs.Numbered.{number_tokens}
use Rattle.hcl_grammar.proofs.NumberedLemmas.{numbered_at, numbered_here}
use Rattle.tf_facts.specs.Seen.{number_of}
use Rattle.tf_facts.specs.Inner.Values.{in_value, values}

-- the tokens of the value from one of them on
pub values_step : (ts : List Lexeme) (n to : ℕ) (t : Lexeme) → slice_get ts n ≡ Some t → n < to → values ts n to ≡ cond (in_value (number_of n t)) (number_of n t ∷ values ts (n + 1) to) (values ts (n + 1) to)
values_step ts n to t e h =
    let one : to - n ≡ suc (to - (n + 1)) = omega arith in
    ap (λ k. filter in_value (take k (drop n (number_tokens ts)))) one
    ∙ ap (λ r. filter in_value (take (suc (to - (n + 1))) r)) (numbered_here ts n t e ∙ ap (λ r. number_of n t ∷ r) (sym (numbered_at ts (n + 1))))

pub values_here : (ts : List Lexeme) (n to : ℕ) (t : Lexeme) → slice_get ts n ≡ Some t → n < to → in_value (number_of n t) ≡ true → values ts n to ≡ number_of n t ∷ values ts (n + 1) to
values_here ts n to t e h within = values_step ts n to t e h ∙ ap (λ b. cond b (number_of n t ∷ values ts (n + 1) to) (values ts (n + 1) to)) within

pub values_past : (ts : List Lexeme) (n to : ℕ) (t : Lexeme) → slice_get ts n ≡ Some t → n < to → in_value (number_of n t) ≡ false → values ts n to ≡ values ts (n + 1) to
values_past ts n to t e h out = values_step ts n to t e h ∙ ap (λ b. cond b (number_of n t ∷ values ts (n + 1) to) (values ts (n + 1) to)) out
