-- Passing a line, and the widths and columns of the lines after it.
use Rattle.std.proofs.Common.{◌≡◌, ◌∙◌, ◌+◌, ◌-◌, ◌<◌, ◌≤◌, ◌^◌, ℕ, Bool, true, false, List, ◌∷◌, Option, Some, None, length, ap, sym, arith, take, drop, length-take}
use Rattle.std.specs.Prelude.{if◌then◌else◌, nat_lt, not, option_map}
use Rattle.std.proofs.lemmas.Bool.Decides.{nat_tests}
use Rattle.hcl_tokens.specs.Balanced.{max_open}
use Rattle.hcl_tokens.specs.Lexemes.{Lexeme}
use Rattle.hcl_layout.specs.Cells.{assign_cell, trailing_comment}
use Rattle.hcl_layout.specs.Gaps.{plain_gaps}
use Rattle.hcl_layout.specs.Lines.{Line, lines}
use Rattle.hcl_layout.specs.Inner.Depths.{BalancedFrom, fresh_levels, level_at, next_levels}
use Rattle.hcl_layout.specs.Inner.Laid.{IsAt}
use Rattle.hcl_layout.specs.Inner.Stream.{assign_width, assign_widths, first_gaps}
use Rattle.hcl_layout.specs.Inner.Survey.{IsLine, facts_in}
use Rattle.hcl_layout.specs.declared.line.Line.{Line as LineRead}
use Rattle.hcl_layout.specs.declared.lines.Lines.{Lines}
use Rattle.std.proofs.lemmas.List.{length-replicate}
use Rattle.hcl_layout.proofs.StreamLemmas.{zeros_get}
use Rattle.hcl_layout.proofs.RunLemmas.{assign_after, assign_within, comment_after, comment_within}

not_less : (a : ℕ) → nat_lt a a ≡ false
not_less a = grind (arith, nat_tests)

less : (a b : ℕ) → a < b → nat_lt a b ≡ true
less a b h = grind (arith, nat_tests)

-- ---- the line that was read

module _ (ts : List Lexeme) (d : ℕ) (r : LineRead) (p : IsLine ts r.first d (facts_in r)) where
  abbrev text : Line
  text = take (r.end - r.first) (drop r.first ts)

  pub read_order : r.first < r.end
  read_order = omega (arith, p.some)

  pub read_within : r.end ≤ length ts
  read_within = omega (arith, p.some, p.within)

  pub read_cut : lines (drop r.first ts) ≡ take (r.end - r.first) (drop r.first ts) ∷ lines (drop r.end ts)
  read_cut = let place : r.first + (r.end - r.first) ≡ r.end = omega (arith, p.some) in p.cut ∙ ap (λ k. text ∷ lines (drop k ts)) place

  pub read_level : (levels : List ℕ) → plain_gaps (level_at d r.depth levels) (take (r.end - r.first) (drop r.first ts)) ≡ first_gaps d levels (take (r.end - r.first) (drop r.first ts))
  read_level levels = ap (λ k. plain_gaps (level_at d k levels) text) p.depth

  -- its sign
  pub sign_is : (n : ℕ) → r.assign ≡ Some n → assign_cell (take (r.end - r.first) (drop r.first ts)) ≡ Some (n - r.first)
  sign_is n e = sym p.assign ∙ ap (option_map (λ k. k - r.first)) e

  pub sign_none : r.assign ≡ None → assign_cell (take (r.end - r.first) (drop r.first ts)) ≡ None
  sign_none e = sym p.assign ∙ ap (option_map (λ k. k - r.first)) e

  pub sign_after : (n : ℕ) → r.assign ≡ Some n → r.first < n
  sign_after n e = omega (arith, assign_after text (n - r.first) (sign_is n e))

  pub sign_within : (n : ℕ) → r.assign ≡ Some n → n < r.end
  sign_within n e = omega (arith, assign_within text (n - r.first) (sign_is n e), length-take (r.end - r.first) (drop r.first ts))

  -- its comment
  pub comment_is : (n : ℕ) → r.comment ≡ Some n → trailing_comment (take (r.end - r.first) (drop r.first ts)) ≡ Some (n - r.first)
  comment_is n e = sym p.comment ∙ ap (option_map (λ k. k - r.first)) e

  pub comment_follows : (n : ℕ) → r.comment ≡ Some n → r.first < n
  comment_follows n e = omega (arith, comment_after text (n - r.first) (comment_is n e))

  pub comment_in : (n : ℕ) → r.comment ≡ Some n → n < r.end
  comment_in n e = omega (arith, comment_within text (n - r.first) (comment_is n e), length-take (r.end - r.first) (drop r.first ts))

  pub sign_step : (levels : List ℕ) → assign_widths d levels (lines (drop r.first ts)) ≡ assign_width d levels (take (r.end - r.first) (drop r.first ts)) ∷ assign_widths r.depth (next_levels d r.depth levels) (lines (drop r.end ts))
  sign_step levels =
      ap (assign_widths d levels) read_cut
      ∙ ap (λ k. assign_width d levels text ∷ assign_widths k (next_levels d k levels) (lines (drop r.end ts))) (sym p.depth)

pub running_some : (runs : Bool) (x : Option ℕ) (n : ℕ) → (if not runs then None else x) ≡ Some n → x ≡ Some n
running_some true x n e = e
running_some false x n e = cc

-- before the first line
pub start_at : (ts : List Lexeme) (s : Lines) → BalancedFrom 0 ts → length ts ≤ 2 ^ 22 → s.next ≡ 0 → s.depth ≡ 0 → s.levels ≡ fresh_levels → s.assigns ≡ None → s.comments ≡ None → IsAt ts s
start_at ts s p few n d v a b = record {
  come = record {
    stands = record { balanced = rw (n, d) p; low = rw d (omega arith); sound = rw (d, v) (length-replicate {A = ℕ} (max_open + 1) 0, λ k le. omega (arith, zeros_get (max_open + 1) k)) };
    assigns = rw a tt;
    comments = rw b tt;
  };
  within = rw n (omega arith);
  few = few;
}
