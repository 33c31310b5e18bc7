-- Passing a line with its sign, and with its comment, in the columns of their runs.
use Rattle.std.proofs.Common.{◌≡◌, ◌∙◌, ◌+◌, ◌-◌, ◌<◌, ◌≤◌, ◌^◌, ℕ, true, false, List, ◌∷◌, Option, Some, None, length, ap, ap₂, refl, sym, arith, subst, take, drop}
use Rattle.std.specs.Prelude.{nat_lt, option_map, slice_set}
use Rattle.std.proofs.lemmas.Bool.Decides.{nat_tests}
use Rattle.hcl_tokens.specs.Balanced.{max_open}
use Rattle.hcl_tokens.specs.Lexemes.{Lexeme}
use Rattle.hcl_layout.specs.Cells.{assign_cell, trailing_comment}
use Rattle.hcl_layout.specs.Gaps.{align, gap_to, plain_gaps, width}
use Rattle.hcl_layout.specs.Lines.{Line, lines}
use Rattle.hcl_layout.specs.Inner.Depths.{level_at, next_levels}
use Rattle.hcl_layout.specs.Inner.Laid.{Laid, bare_line, cell_of, shape, text_of}
use Rattle.hcl_layout.specs.Inner.LineGaps.{HasAssignSet, LineGaps, gaps_in, plain_of}
use Rattle.hcl_layout.specs.Inner.Stream.{assign_column, assign_width, assign_widths, next_of, first_gaps}
use Rattle.hcl_layout.specs.Inner.Survey.{IsLine, facts_in}
use Rattle.hcl_layout.specs.declared.line.Line.{Line as LineRead}
use Rattle.hcl_layout.specs.declared.lines.LaidLine.{LaidLine}
use Rattle.hcl_layout.proofs.RunLemmas.{aligned_none, aligned_some, assigned_in, comment_cell, commented_in, plain_in, signed_set}
use Rattle.hcl_layout.proofs.WalkLemmas.{comment_is, read_level, read_order, read_within, sign_after, sign_is, sign_none, sign_step, sign_within}

less : (a b : ℕ) → a < b → nat_lt a b ≡ true
less a b h = grind (arith, nat_tests)

not_less : (a : ℕ) → nat_lt a a ≡ false
not_less a = grind (arith, nat_tests)

abbrev pub text_in : List Lexeme → LineRead → Line
text_in ts r = take (r.end - r.first) (drop r.first ts)

-- with its sign
abbrev pub with_sign_at : LaidLine → ℕ → ℕ → ℕ → LaidLine
with_sign_at b n w gap = record { first = b.first; end = b.end; level = b.level; assign = record { number = n; width = w; gap = gap }; comment = b.comment }

module _ (ts : List Lexeme) (d : ℕ) (r : LineRead) (p : IsLine ts r.first d (facts_in r)) (levels : List ℕ) (level : ℕ) (low : level ≤ max_open) (is : level ≡ level_at d r.depth levels) where
  pub level_gaps : plain_gaps level (text_in ts r) ≡ first_gaps d levels (text_in ts r)
  level_gaps = ap (λ k. plain_gaps k (text_in ts r)) is ∙ read_level ts d r p levels

  bare : shape (bare_line r level) ≡ plain_of level
  bare = rw (not_less r.end) refl

  -- a line without a sign
  pub bare_gaps : (column : Option ℕ) → r.assign ≡ None → gaps_in (shape (bare_line r level)) (text_in ts r) ≡ align assign_cell (first_gaps d levels (text_in ts r)) (text_in ts r) column
  bare_gaps column e =
      ap (λ (s : LineGaps). gaps_in s (text_in ts r)) bare ∙ plain_in level (text_in ts r) ∙ level_gaps ∙ aligned_none (first_gaps d levels (text_in ts r)) (text_in ts r) column (sign_none ts d r p e)

  -- a line with a sign
  module _ (n w gap : ℕ) (e : r.assign ≡ Some n) (own : w ≡ width (n - r.first) (plain_gaps level (text_in ts r)) (text_in ts r)) where
    set : shape (with_sign_at (bare_line r level) n w gap) ≡ record { level = level; assign = Some (record { place = n - r.first; width = w; gap = gap }); comment = None }
    set = rw (less n r.end (sign_within ts d r p n e), not_less r.end) refl

    pub set_laid : length ts ≤ 2 ^ 22 → gap ≤ 2 ^ 33 → Laid ts (with_sign_at (bare_line r level) n w gap)
    set_laid few small = record { some = read_order ts d r p; within = read_within ts d r p; few = few; level = low; sign_front = sign_after ts d r p n e; comment_front = read_order ts d r p; sign_gap = small; comment_gap = omega arith }

    pub set_signed : gap ≤ 2 ^ 33 → HasAssignSet (shape (with_sign_at (bare_line r level) n w gap)) (text_in ts r)
    set_signed small = subst (λ (s : LineGaps). HasAssignSet s (text_in ts r)) (sym set) (signed_set level (n - r.first) w gap (text_in ts r) low (sign_is ts d r p n e) own small)

    pub set_width : assign_width d levels (text_in ts r) ≡ Some w
    set_width =
        ap (option_map (λ i. width i (first_gaps d levels (text_in ts r)) (text_in ts r))) (sign_is ts d r p n e)
        ∙ ap (λ (k : ℕ). Some k) (sym (own ∙ ap (λ (g : List ℕ). width (n - r.first) g (text_in ts r)) level_gaps))

    pub set_gaps : (column : ℕ) → gap ≡ column - w + 1 → gaps_in (shape (with_sign_at (bare_line r level) n w gap)) (text_in ts r) ≡ align assign_cell (first_gaps d levels (text_in ts r)) (text_in ts r) (Some column)
    set_gaps column g =
        ap (λ (s : LineGaps). gaps_in s (text_in ts r)) set
        ∙ assigned_in level (n - r.first) w gap (text_in ts r)
        ∙ ap (λ (gs : List ℕ). slice_set gs (n - r.first) gap) level_gaps
        ∙ aligned_some (first_gaps d levels (text_in ts r)) (text_in ts r) column (n - r.first) gap (sign_is ts d r p n e)
        (g ∙ ap (λ k. column - k + 1) (own ∙ ap (λ (gs : List ℕ). width (n - r.first) gs (text_in ts r)) level_gaps))

    -- the column that its run has
    pub set_column : (run : Option ℕ) (column : ℕ) → Some column ≡ next_of run (Some w ∷ assign_widths r.depth (next_levels d r.depth levels) (lines (drop r.end ts)))
        → Some column ≡ assign_column d levels run (lines (drop r.first ts))
    set_column run column q =
        q ∙ ap (λ (x : Option ℕ). next_of run (x ∷ assign_widths r.depth (next_levels d r.depth levels) (lines (drop r.end ts)))) (sym set_width)
        ∙ sym (ap (next_of run) (sign_step ts d r p levels))

-- with its comment as well
abbrev pub with_comment_at : LaidLine → ℕ → ℕ → ℕ → LaidLine
with_comment_at b n w gap = record { first = b.first; end = b.end; level = b.level; assign = b.assign; comment = record { number = n; width = w; gap = gap } }

pub commented_laid : (ts : List Lexeme) (b : LaidLine) (n w gap : ℕ) → Laid ts b → b.first < n → gap ≤ 2 ^ 34 → Laid ts (with_comment_at b n w gap)
commented_laid ts b n w gap p lt small = record { some = p.some; within = p.within; few = p.few; level = p.level; sign_front = p.sign_front; comment_front = lt; sign_gap = p.sign_gap; comment_gap = small }

pub commented_gaps : (ts : List Lexeme) (b : LaidLine) (n w gap : ℕ) (column : Option ℕ) → HasAssignSet (shape b) (text_of ts b) → n < b.end → trailing_comment (text_of ts b) ≡ Some (n - b.first)
    → gap ≡ gap_to column (width (n - b.first) (gaps_in (shape b) (text_of ts b)) (text_of ts b))
    → gaps_in (shape (with_comment_at b n w gap)) (text_of ts b) ≡ align trailing_comment (gaps_in (shape b) (text_of ts b)) (text_of ts b) column
commented_gaps ts b n w gap column p lt e g =
    let set : shape (with_comment_at b n w gap) ≡ record { level = b.level; assign = cell_of b b.assign; comment = Some (record { place = n - b.first; width = w; gap = gap }) } = rw (less n b.end lt) refl in
    ap (λ (s : LineGaps). gaps_in s (text_of ts b)) set
    ∙ commented_in b.level (cell_of b b.assign) (cell_of b b.comment) (n - b.first) w gap (text_of ts b) p.plain
    ∙ comment_cell (gaps_in (shape b) (text_of ts b)) (text_of ts b) column (n - b.first) gap e g

-- its comment, if it is passed
pub comment_at : (ts : List Lexeme) (d : ℕ) (r : LineRead) (b : LaidLine) (n : ℕ) → IsLine ts r.first d (facts_in r) → b.first ≡ r.first → b.end ≡ r.end → r.comment ≡ Some n → trailing_comment (text_of ts b) ≡ Some (n - b.first)
comment_at ts d r b n p f e c =
    ap₂ (λ (x y : ℕ). trailing_comment (take (y - x) (drop x ts))) f e ∙ comment_is ts d r p n c ∙ ap (λ (x : ℕ). Some (n - x)) (sym f)

pub to_own : (own : ℕ) → own - own + 1 ≡ 1
to_own own = omega arith
