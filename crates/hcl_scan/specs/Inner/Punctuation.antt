-- The scanner's order of the marks, where longer ones come first.
use Rattle.std.specs.Prelude.{ℕ, ◌&&◌, Bool, true, List, [], ◌∷◌, Option, option_map, find, length, nat_eq, nat_le, codes}
use Rattle.std.specs.List.{list_all, starts_with}
use Rattle.hcl_tokens.specs.declared.token.Kind.{Kind}
use Rattle.hcl_tokens.specs.declared.token.Kind.TheVariants.{And, Arrow, Assign, BraceOpen, BracketClose, BracketOpen, Colon, ColonColon, Comma, Dot, Ellipsis, Equal, Greater, GreaterEqual, Less, LessEqual, Minus, Not, NotEqual, Or, ParenClose, ParenOpen, Percent, Plus, Question, QuoteOpen, Star}

-- no mark is shorter than one after it
abbrev pub is_longest_first : List (List ℕ × Kind) → Bool
is_longest_first [] = true
is_longest_first (m ∷ ms) = list_all (λ o. nat_le (length o.0) (length m.0)) ms && is_longest_first ms

abbrev pub ordered_punctuation : List (List ℕ × Kind)
ordered_punctuation =
    (codes "...", Ellipsis) ∷ (codes "=>", Arrow) ∷ (codes "&&", And) ∷ (codes "||", Or) ∷ (codes "==", Equal) ∷ (codes "!=", NotEqual) ∷ (codes "<=", LessEqual) ∷ (codes ">=", GreaterEqual) ∷ (codes "::", ColonColon) ∷ (codes "=", Assign) ∷ (codes "\"", QuoteOpen) ∷ (codes ".", Dot) ∷ (codes ",", Comma) ∷ (codes "{", BraceOpen) ∷ (codes "[", BracketOpen) ∷ (codes "]", BracketClose) ∷ (codes "(", ParenOpen) ∷ (codes ")", ParenClose) ∷ (codes ":", Colon) ∷ (codes "?", Question) ∷ (codes "!", Not) ∷ (codes "-", Minus) ∷ (codes "+", Plus) ∷ (codes "*", Star) ∷ (codes "%", Percent) ∷ (codes "<", Less) ∷ (codes ">", Greater) ∷ []

-- the kind and the length of the first of them at the front
abbrev pub first_punctuation : List ℕ → Option (Kind × ℕ)
first_punctuation seen = option_map (λ m. (m.1, length m.0)) (find (λ m. starts_with nat_eq seen m.0) ordered_punctuation)
