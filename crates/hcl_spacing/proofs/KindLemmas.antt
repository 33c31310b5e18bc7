-- A test that holds for each kind in turn holds for all kinds.
use Rattle.std.proofs.Common.{◌≡◌, ◌&&◌, ℕ, zero, suc, Bool, true, false, List, [], ◌∷◌, length, get_or, arith, refl}
use Rattle.std.specs.Prelude.{nat_lt}
use Rattle.std.specs.List.{list_all}
use Rattle.std.proofs.lemmas.Bool.Decides.{nat_tests}
use Rattle.hcl_tokens.specs.declared.token.Kind.{Kind}
use Rattle.hcl_tokens.specs.declared.token.Kind.TheVariants as kind

pub never : {A : Type 0} → false ≡ true → A
never h = absurd (cc)

abbrev pub kinds : List Kind
kinds = kind.Newline ∷ kind.LineComment ∷ kind.InlineComment ∷ kind.Blank ∷ kind.Ident ∷ kind.Number ∷ kind.HeredocOpen ∷ kind.QuoteOpen ∷ kind.ParenOpen ∷ kind.BracketOpen ∷ kind.BraceOpen ∷ kind.ParenClose ∷ kind.BracketClose ∷ kind.SeqClose ∷ kind.BraceClose ∷ kind.Dot ∷ kind.Comma ∷ kind.Ellipsis ∷ kind.Question ∷ kind.Colon ∷ kind.ColonColon ∷ kind.Assign ∷ kind.Arrow ∷ kind.Not ∷ kind.Minus ∷ kind.Plus ∷ kind.Star ∷ kind.Slash ∷ kind.Percent ∷ kind.And ∷ kind.Or ∷ kind.Equal ∷ kind.NotEqual ∷ kind.Less ∷ kind.Greater ∷ kind.LessEqual ∷ kind.GreaterEqual ∷ kind.Lit ∷ kind.InterpOpen ∷ kind.ControlOpen ∷ kind.QuoteClose ∷ kind.HeredocClose ∷ []

all_parts : (P : Kind → Bool) (k : Kind) (ks : List Kind) → list_all P (k ∷ ks) ≡ true → (P k ≡ true) × (list_all P ks ≡ true)
all_parts P k ks h = go (P k) refl h
  where
    go : (v : Bool) → P k ≡ v → (v && list_all P ks) ≡ true → (P k ≡ true) × (list_all P ks ≡ true)
    go true e h = (e, h)
    go false e h = cc

none_below_zero : (n : ℕ) → nat_lt n 0 ≡ true → ⊥
none_below_zero n h = grind (arith, nat_tests)

at_place : (P : Kind → Bool) (ks : List Kind) (n : ℕ) → list_all P ks ≡ true → nat_lt n (length ks) ≡ true → P (get_or ks n kind.Dot) ≡ true
at_place P [] n h e = absurd (none_below_zero n e)
at_place P (k ∷ ks) zero h e = (all_parts P k ks h).0
at_place P (k ∷ ks) (suc n) h e = at_place P ks n (all_parts P k ks h).1 (below n (length ks) e)
  where
    below : (a b : ℕ) → nat_lt (suc a) (suc b) ≡ true → nat_lt a b ≡ true
    below a b h = grind (arith, nat_tests)

pub each : (P : Kind → Bool) → list_all P kinds ≡ true → (k : Kind) → P k ≡ true
each P h kind.Newline = at_place P kinds 0 h refl
each P h kind.LineComment = at_place P kinds 1 h refl
each P h kind.InlineComment = at_place P kinds 2 h refl
each P h kind.Blank = at_place P kinds 3 h refl
each P h kind.Ident = at_place P kinds 4 h refl
each P h kind.Number = at_place P kinds 5 h refl
each P h kind.HeredocOpen = at_place P kinds 6 h refl
each P h kind.QuoteOpen = at_place P kinds 7 h refl
each P h kind.ParenOpen = at_place P kinds 8 h refl
each P h kind.BracketOpen = at_place P kinds 9 h refl
each P h kind.BraceOpen = at_place P kinds 10 h refl
each P h kind.ParenClose = at_place P kinds 11 h refl
each P h kind.BracketClose = at_place P kinds 12 h refl
each P h kind.SeqClose = at_place P kinds 13 h refl
each P h kind.BraceClose = at_place P kinds 14 h refl
each P h kind.Dot = at_place P kinds 15 h refl
each P h kind.Comma = at_place P kinds 16 h refl
each P h kind.Ellipsis = at_place P kinds 17 h refl
each P h kind.Question = at_place P kinds 18 h refl
each P h kind.Colon = at_place P kinds 19 h refl
each P h kind.ColonColon = at_place P kinds 20 h refl
each P h kind.Assign = at_place P kinds 21 h refl
each P h kind.Arrow = at_place P kinds 22 h refl
each P h kind.Not = at_place P kinds 23 h refl
each P h kind.Minus = at_place P kinds 24 h refl
each P h kind.Plus = at_place P kinds 25 h refl
each P h kind.Star = at_place P kinds 26 h refl
each P h kind.Slash = at_place P kinds 27 h refl
each P h kind.Percent = at_place P kinds 28 h refl
each P h kind.And = at_place P kinds 29 h refl
each P h kind.Or = at_place P kinds 30 h refl
each P h kind.Equal = at_place P kinds 31 h refl
each P h kind.NotEqual = at_place P kinds 32 h refl
each P h kind.Less = at_place P kinds 33 h refl
each P h kind.Greater = at_place P kinds 34 h refl
each P h kind.LessEqual = at_place P kinds 35 h refl
each P h kind.GreaterEqual = at_place P kinds 36 h refl
each P h kind.Lit = at_place P kinds 37 h refl
each P h kind.InterpOpen = at_place P kinds 38 h refl
each P h kind.ControlOpen = at_place P kinds 39 h refl
each P h kind.QuoteClose = at_place P kinds 40 h refl
each P h kind.HeredocClose = at_place P kinds 41 h refl
