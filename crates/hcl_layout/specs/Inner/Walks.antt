-- The state of a walk along the lines, and the facts of the current line.
use Rattle.std.specs.Prelude.{◌<◌, ◌≤◌, ◌^◌, ℕ, List, Option, IfSome, drop}
use Rattle.hcl_tokens.specs.Lexemes.{Lexeme}
use Rattle.hcl_tokens.specs.Balanced.{max_open}
use Rattle.hcl_layout.specs.Lines.{lines}
use Rattle.hcl_layout.specs.Inner.Depths.{BalancedFrom, Sound}
use Rattle.hcl_layout.specs.Inner.Stream.{assign_widths, comment_widths}

-- the state after the passed lines: the depth, the levels by depth, and the columns of the current runs
pub record Walk : Type 0 where
  pub depth : ℕ
  pub levels : List ℕ
  pub assigns : Option ℕ
  pub comments : Option ℕ

-- the rest is balanced from the current depth on, and the levels fit it
pub record IsBalancedAt (ts : List Lexeme) (at d : ℕ) (levels : List ℕ) : Type 0 where
  pub balanced : BalancedFrom d (drop at ts)
  pub low : d ≤ max_open
  pub sound : Sound d levels

-- a walk has reached a token, and its columns are no wider than a source can have them
pub record IsWalkAt (ts : List Lexeme) (at : ℕ) (w : Walk) : Type 0 where
  pub stands : IsBalancedAt ts at w.depth w.levels
  pub assigns : IfSome w.assigns (λ c. c < 2 ^ 33)
  pub comments : IfSome w.comments (λ c. c < 2 ^ 34)

-- ---- the lines from a token on

-- the widths before their signs, by their levels and the spacing alone
abbrev pub assign_widths_at : Walk → List Lexeme → ℕ → List (Option ℕ)
assign_widths_at w ts at = assign_widths w.depth w.levels (lines (drop at ts))

-- the widths before their comments, with their signs in their columns
abbrev pub comment_widths_at : Walk → List Lexeme → ℕ → List (Option ℕ)
comment_widths_at w ts at = comment_widths w.depth w.levels w.assigns (lines (drop at ts))

-- ---- the line with these facts that begins at a token
