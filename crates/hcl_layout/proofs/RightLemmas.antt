-- Columns that are right at the end of each run are those of the definition, however they were found.
use Rattle.std.proofs.Common.{◌≡◌, ◌∙◌, ◌-◌, ◌++◌, ◌≤◌, ◌==◌, ◌||◌, not, ℕ, Bool, true, false, List, [], ◌∷◌, Option, Some, None, length, ap, ap₂, refl, sym, arith, subst, take, drop}
use Rattle.std.specs.Prelude.{option_map}
use Rattle.std.specs.List.{flat_map}
use Rattle.std.proofs.Math.ListN.{drop_of_length-le}
use Rattle.std.proofs.lemmas.Bool.Decides.{nat_tests}
use Rattle.hcl_tokens.specs.Lexemes.{Lexeme}
use Rattle.hcl_layout.specs.Cells.{assign_cell, running_comment, trailing_comment}
use Rattle.hcl_layout.specs.Gaps.{align, width}
use Rattle.hcl_layout.specs.Lines.{Line, lines}
use Rattle.hcl_layout.specs.Inner.Depths.{next_levels}
use Rattle.hcl_layout.specs.Inner.Laid.{AreRight, Grows, IsRight, Moves, RunsGrow, column_of, ends_wrong, ends_wrong_at, gaps_after, gaps_on, laid_gaps, shape, gaps_after_assign, text_of}
use Rattle.hcl_layout.specs.Inner.Left.{token_before}
use Rattle.hcl_layout.specs.Inner.LineGaps.{gaps_from, gaps_in}
use Rattle.hcl_layout.specs.Inner.Stream.{assign_column, assign_widths, assign_line, comment_column, comment_widths, comment_stream, next_of, first_gaps}
use Rattle.hcl_layout.specs.Inner.Survey.{IsLine, facts_in}
use Rattle.hcl_layout.specs.declared.line.Line.{Line as LineRead}
use Rattle.hcl_layout.specs.declared.lines.LaidLine.{LaidLine}
use Rattle.hcl_layout.specs.declared.lines.Lines.{Lines}
use Rattle.hcl_layout.specs.declared.lines.Run.{Run}
use Rattle.hcl_layout.proofs.LeftLemmas.{none_after}
use Rattle.hcl_layout.proofs.WalkLemmas.{read_cut, sign_step}

-- ---- one run

equal : (a b : ℕ) → not (a == b) ≡ false → a ≡ b
equal a b e = grind (arith, nat_tests)

record RunBack (old new : Option Run) (own : Option ℕ) (rest : List (Option ℕ)) : Type 0 where
  right : IsRight old (own ∷ rest)
  column : column_of new ≡ next_of (column_of old) (own ∷ rest)

-- `cell` says whether the line has the cell, and `own` is the width before it
run_back : (old new : Option Run) (cell : Option ℕ) (f : ℕ → ℕ) (rest : List (Option ℕ)) → Grows old (option_map f cell) new → ends_wrong_at old cell ≡ false → IsRight new rest → RunBack old new (option_map f cell) rest
run_back None new None f rest g e p = record { right = tt; column = ap column_of g }
run_back (Some o) new None f rest g e p = record { right = omega (arith, equal o.column o.greatest e); column = ap column_of g }
run_back None None (Some i) f rest g e p = absurd g
run_back None (Some r) (Some i) f rest g e p = record { right = tt; column = ap (λ (k : ℕ). Some k) (omega (arith, p, g.0)) }
run_back (Some o) None (Some i) f rest g e p = absurd g
run_back (Some o) (Some r) (Some i) f rest g e p = record { right = omega (arith, p, g.0, g.1); column = ap (λ (k : ℕ). Some k) g.1 }

-- ---- both, over a line

or_false : (a b c : Bool) → (a || b || c) ≡ false → (a ≡ false) × (b ≡ false) × (c ≡ false)
or_false true b c h = cc
or_false false true c h = cc
or_false false false c h = (refl, refl, h)

module _ (ts : List Lexeme) (old new : Lines) (r : LineRead) (p : IsLine ts r.first old.depth (facts_in r)) (at : r.first ≡ old.next) (m : Moves old r new) where
  abbrev t : Line
  t = take (r.end - r.first) (drop r.first ts)

  abbrev after : List Line
  after = lines (drop r.end ts)

  abbrev levels' : List ℕ
  levels' = next_levels old.depth r.depth old.levels

  comment_step : (column : Option ℕ) → comment_widths old.depth old.levels column (lines (drop r.first ts))
      ≡ option_map (λ i. width i (assign_line old.depth old.levels column t (lines (drop r.first ts))) t) (running_comment t)
      ∷ comment_widths r.depth levels' (assign_column old.depth old.levels column (lines (drop r.first ts))) after
  comment_step column =
      let cut = read_cut ts old.depth r p in
      ap (comment_widths old.depth old.levels column) cut
      ∙ ap₂ (λ (c : Option ℕ) (k : ℕ). option_map (λ i. width i (align assign_cell (first_gaps old.depth old.levels t) t c) t) (running_comment t) ∷ comment_widths k (next_levels old.depth k old.levels) c after)
      (ap (assign_column old.depth old.levels column) (sym cut)) (sym p.depth)

  sign_widths_new : assign_widths new.depth new.levels (lines (drop new.next ts)) ≡ assign_widths r.depth levels' after
  sign_widths_new = ap₂ (λ (d : ℕ) (v : List ℕ). assign_widths d v (lines (drop new.next ts))) m.depth m.levels ∙ ap (λ n. assign_widths r.depth levels' (lines (drop n ts))) m.next

  comment_widths_new : (c : Option ℕ) → comment_widths new.depth new.levels c (lines (drop new.next ts)) ≡ comment_widths r.depth levels' c after
  comment_widths_new c = ap₂ (λ (d : ℕ) (v : List ℕ). comment_widths d v c (lines (drop new.next ts))) m.depth m.levels ∙ ap (λ n. comment_widths r.depth levels' c (lines (drop n ts))) m.next

  gaps_new : gaps_after ts new ≡ flat_map (λ g. g) (comment_stream r.depth levels' (column_of new.assigns) (column_of new.comments) after)
  gaps_new =
      ap₂ (λ (d : ℕ) (v : List ℕ). flat_map (λ g. g) (comment_stream d v (column_of new.assigns) (column_of new.comments) (lines (drop new.next ts)))) m.depth m.levels
      ∙ ap (λ n. flat_map (λ g. g) (comment_stream r.depth levels' (column_of new.assigns) (column_of new.comments) (lines (drop n ts)))) m.next

  -- the rest of the print, if the columns are those of the definition
  left_step : column_of new.assigns ≡ assign_column old.depth old.levels (column_of old.assigns) (lines (drop r.first ts))
      → column_of new.comments ≡ comment_column old.depth old.levels (column_of old.assigns) (column_of old.comments) (lines (drop r.first ts))
      → gaps_after ts old ≡ laid_gaps old new t ++ gaps_after ts new
  left_step c k =
      let cut = read_cut ts old.depth r p in
      ap (λ n. flat_map (λ g. g) (comment_stream old.depth old.levels (column_of old.assigns) (column_of old.comments) (lines (drop n ts)))) (sym at)
      ∙ ap (λ ls. flat_map (λ g. g) (comment_stream old.depth old.levels (column_of old.assigns) (column_of old.comments) ls)) cut
      ∙ ap (λ d. align trailing_comment (align assign_cell (first_gaps old.depth old.levels t) t (assign_column old.depth old.levels (column_of old.assigns) (t ∷ after))) t (comment_column old.depth old.levels (column_of old.assigns) (column_of old.comments) (t ∷ after))
      ++ flat_map (λ g. g) (comment_stream d (next_levels old.depth d old.levels) (assign_column old.depth old.levels (column_of old.assigns) (t ∷ after)) (comment_column old.depth old.levels (column_of old.assigns) (column_of old.comments) (t ∷ after)) after)) (sym p.depth)
      ∙ ap₂ (λ (x y : Option ℕ). align trailing_comment (align assign_cell (first_gaps old.depth old.levels t) t x) t y ++ flat_map (λ g. g) (comment_stream r.depth levels' x y after))
      (sym (c ∙ ap (assign_column old.depth old.levels (column_of old.assigns)) cut)) (sym (k ∙ ap (comment_column old.depth old.levels (column_of old.assigns) (column_of old.comments)) cut))
      ∙ ap (λ gs. laid_gaps old new t ++ gs) (sym gaps_new)

  -- columns that were right after the line are right before it, and its cells are in them
  pub right_step : RunsGrow old t new → new.wrong ≡ false → AreRight ts new → (old.wrong ≡ false) × AreRight ts old × (gaps_after ts old ≡ laid_gaps old new t ++ gaps_after ts new)
  right_step g wrong right =
      let parts = or_false old.wrong (ends_wrong_at old.assigns (assign_cell t)) (ends_wrong_at old.comments (running_comment t)) (sym g.wrong ∙ wrong) in
      let c = column_of old.assigns in
      let assigns = run_back old.assigns new.assigns (assign_cell t) (λ i. width i (first_gaps old.depth old.levels t) t) (assign_widths r.depth levels' after) g.assigns parts.1
      (subst (λ (ws : List (Option ℕ)). IsRight new.assigns ws) sign_widths_new right.0) in
      let step = sign_step ts old.depth r p old.levels in
      let column : column_of new.assigns ≡ assign_column old.depth old.levels c (lines (drop r.first ts)) = assigns.column ∙ ap (next_of c) (sym step) in
      let own : ℕ → ℕ = λ i. width i (gaps_after_assign old new t) t in
      let comments = run_back old.comments new.comments (running_comment t) own (comment_widths r.depth levels' (column_of new.assigns) after) g.comments parts.2
      (subst (λ (ws : List (Option ℕ)). IsRight new.comments ws) (comment_widths_new (column_of new.assigns)) right.1) in
      let more : comment_widths old.depth old.levels c (lines (drop r.first ts)) ≡ option_map own (running_comment t) ∷ comment_widths r.depth levels' (column_of new.assigns) after =
      comment_step c ∙ ap (λ (x : Option ℕ). option_map (λ i. width i (align assign_cell (first_gaps old.depth old.levels t) t x) t) (running_comment t) ∷ comment_widths r.depth levels' x after) (sym column) in
      let other : column_of new.comments ≡ comment_column old.depth old.levels c (column_of old.comments) (lines (drop r.first ts)) = comments.column ∙ ap (next_of (column_of old.comments)) (sym more) in (
        parts.0,
        (
          subst (λ n. IsRight old.assigns (assign_widths old.depth old.levels (lines (drop n ts)))) at (subst (λ (ws : List (Option ℕ)). IsRight old.assigns ws) (sym step) assigns.right),
          subst (λ n. IsRight old.comments (comment_widths old.depth old.levels c (lines (drop n ts)))) at (subst (λ (ws : List (Option ℕ)). IsRight old.comments ws) (sym more) comments.right),
        ),
        left_step column other,
      )

-- the line's gaps from its first token on
pub front_gaps : (ts : List Lexeme) (l : LaidLine) → gaps_in (shape l) (text_of ts l) ≡ gaps_on ts l l.first
front_gaps ts l =
    let place : l.first - l.first ≡ 0 = omega arith in
    sym (ap (λ (k : ℕ). gaps_from (shape l) k (token_before ts l.first (l.first - 1)) (token_before ts l.first l.first) (text_of ts l)) place
    ∙ ap₂ (λ (x y : Option Lexeme). gaps_from (shape l) 0 x y (text_of ts l)) (none_after ts l.first (l.first - 1) (omega arith)) (none_after ts l.first l.first (omega arith)))

-- a run that ends well was right
run_end : (run : Option Run) → ends_wrong run ≡ false → IsRight run []
run_end None e = tt
run_end (Some r) e = omega (arith, equal r.column r.greatest e)

not_any : (a b c : Bool) → not (a || b || c) ≡ true → (a ≡ false) × (b ≡ false) × (c ≡ false)
not_any true b c h = cc
not_any false true c h = cc
not_any false false true h = cc
not_any false false false h = (refl, refl, refl)

-- after the last line
pub all_right : (ts : List Lexeme) (s : Lines) → length ts ≤ s.next → not (s.wrong || ends_wrong s.assigns || ends_wrong s.comments) ≡ true → (s.wrong ≡ false) × AreRight ts s
all_right ts s le e =
    let parts = not_any s.wrong (ends_wrong s.assigns) (ends_wrong s.comments) e in
    let none = sym (drop_of_length-le ts le) in (
      parts.0,
      (
        subst (λ (xs : List Lexeme). IsRight s.assigns (assign_widths s.depth s.levels (lines xs))) none (run_end s.assigns parts.1),
        subst (λ (xs : List Lexeme). IsRight s.comments (comment_widths s.depth s.levels (column_of s.assigns) (lines xs))) none (run_end s.comments parts.2),
      ),
    )
