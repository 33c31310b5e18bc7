use Rattle.std.proofs.Common.{◌≡◌, ◌∙◌, ◌+◌, ◌-◌, ◌≤◌, ℕ, Some, ap, arith, refl, subst, sym}
use Rattle.hcl_tokens.specs.Balanced.{max_open}
use Rattle.hcl_layout.specs.Cells.{assign_cell}
use Rattle.hcl_layout.specs.Gaps.{align, plain_gaps, width}
use Rattle.hcl_layout.specs.Inner.Depths.{level_at}
use Rattle.hcl_layout.specs.Inner.Laid.{Laid, column_of, shape, gaps_after_assign, text_of}
use Rattle.hcl_layout.specs.Inner.LineGaps.{HasAssignSet, gaps_in}
use Rattle.hcl_layout.specs.Inner.Stream.{first_gaps}
use Rattle.hcl_layout.specs.Inner.Survey.{IsLine, facts_in}
use Rattle.hcl_layout.specs.declared.lines.LaidLine.{LaidLine}
use Rattle.hcl_layout.proofs.PassLemmas.{bare_gaps, set_gaps, set_laid, set_signed, text_in, with_sign_at}
use Rattle.hcl_layout.proofs.WalkLemmas.{read_within, sign_after, sign_within}
use Rattle.hcl_layout.proofs.lines.Lines.pass_assign.Goals as goal

pub returns-in_default-clause-gaps : goal.returns-in_default-clause-gaps
returns-in_default-clause-gaps c =
    let ts = c.args.tokens.now.tokens in
    let s = c.args.self.now in
    let r = c.args.line in
    let p = subst (λ k. IsLine ts k s.depth (facts_in r)) (sym c.requires.first) c.requires.line in
    let level : ℕ = level_at s.depth r.depth s.levels in
    let laid = c.pass-laid.ensures.laid in
    let low : level ≤ max_open = subst (λ (x : LaidLine). x.level ≤ max_open) laid c.pass-laid.ensures.small in
    subst (λ (x : LaidLine). gaps_in (shape x) (text_of ts x) ≡ gaps_after_assign s c.end_assigns.new.self (text_of ts x)) (sym laid)
    (bare_gaps ts s.depth r p s.levels level low refl (column_of c.end_assigns.new.self.assigns) c.in_default.is)

pub assign_cell_width-width-requires-clause-order : goal.assign_cell_width-width-requires-clause-order
assign_cell_width-width-requires-clause-order c =
    let ts = c.args.tokens.now.tokens in
    let r = c.args.line in
    let d = c.args.self.now.depth in
    let p = subst (λ k. IsLine ts k d (facts_in r)) (sym c.requires.first) c.requires.line in
    omega (arith, ap (λ (x : LaidLine). x.first) c.pass-laid.ensures.laid, sign_after ts d r p c.in-Some.number c.in-Some.is)

pub assign_cell_width-width-requires-clause-within : goal.assign_cell_width-width-requires-clause-within
assign_cell_width-width-requires-clause-within c =
    let ts = c.args.tokens.now.tokens in
    let r = c.args.line in
    let d = c.args.self.now.depth in
    let p = subst (λ k. IsLine ts k d (facts_in r)) (sym c.requires.first) c.requires.line in
    omega (arith, ap (λ (x : LaidLine). x.end) c.pass-laid.ensures.laid, sign_within ts d r p c.in-Some.number c.in-Some.is)

pub assign_cell_column-column-requires-clause-within : goal.assign_cell_column-column-requires-clause-within
assign_cell_column-column-requires-clause-within c =
    let ts = c.args.tokens.now.tokens in
    let r = c.args.line in
    let d = c.args.self.now.depth in
    let p = subst (λ k. IsLine ts k d (facts_in r)) (sym c.requires.first) c.requires.line in
    omega (arith, read_within ts d r p, sign_within ts d r p c.in-Some.number c.in-Some.is)

pub assign_cell_column-column-requires-clause-after : goal.assign_cell_column-column-requires-clause-after
assign_cell_column-column-requires-clause-after c =
    let ts = c.args.tokens.now.tokens in
    let r = c.args.line in
    let d = c.args.self.now.depth in
    let p = subst (λ k. IsLine ts k d (facts_in r)) (sym c.requires.first) c.requires.line in
    omega (arith, sign_after ts d r p c.in-Some.number c.in-Some.is)

pub returns-clause-laid : goal.returns-clause-laid
returns-clause-laid c =
    let ts = c.args.tokens.now.tokens in
    let s = c.args.self.now in
    let r = c.args.line in
    let p = subst (λ k. IsLine ts k s.depth (facts_in r)) (sym c.requires.first) c.requires.line in
    let level : ℕ = level_at s.depth r.depth s.levels in
    let laid = c.pass-laid.ensures.laid in
    let low : level ≤ max_open = subst (λ (x : LaidLine). x.level ≤ max_open) laid c.pass-laid.ensures.small in
    let n = c.in-Some.number in
    let w = c.assign_cell_width-width.result in
    let gap : ℕ = c.assign_cell_column-column.result - w + 1 in
    let own = c.assign_cell_width-width.ensures.value ∙ ap (λ (b : LaidLine). width (n - b.first) (plain_gaps b.level (text_of ts b)) (text_of ts b)) laid in
    subst (Laid ts) (sym (c.with_assign.ensures ∙ ap (λ (b : LaidLine). with_sign_at b n w gap) laid))
    (set_laid ts s.depth r p s.levels level low refl n w gap c.in-Some.is own c.requires.at.few (omega (arith, c.assign_cell_column-column.ensures.small)))

pub returns-clause-signed : goal.returns-clause-signed
returns-clause-signed c =
    let ts = c.args.tokens.now.tokens in
    let s = c.args.self.now in
    let r = c.args.line in
    let p = subst (λ k. IsLine ts k s.depth (facts_in r)) (sym c.requires.first) c.requires.line in
    let level : ℕ = level_at s.depth r.depth s.levels in
    let laid = c.pass-laid.ensures.laid in
    let low : level ≤ max_open = subst (λ (x : LaidLine). x.level ≤ max_open) laid c.pass-laid.ensures.small in
    let n = c.in-Some.number in
    let w = c.assign_cell_width-width.result in
    let gap : ℕ = c.assign_cell_column-column.result - w + 1 in
    let own = c.assign_cell_width-width.ensures.value ∙ ap (λ (b : LaidLine). width (n - b.first) (plain_gaps b.level (text_of ts b)) (text_of ts b)) laid in
    subst (λ (x : LaidLine). HasAssignSet (shape x) (text_of ts x)) (sym (c.with_assign.ensures ∙ ap (λ (b : LaidLine). with_sign_at b n w gap) laid))
    (set_signed ts s.depth r p s.levels level low refl n w gap c.in-Some.is own (omega (arith, c.assign_cell_column-column.ensures.small)))

pub returns-clause-gaps : goal.returns-clause-gaps
returns-clause-gaps c =
    let ts = c.args.tokens.now.tokens in
    let s = c.args.self.now in
    let r = c.args.line in
    let p = subst (λ k. IsLine ts k s.depth (facts_in r)) (sym c.requires.first) c.requires.line in
    let level : ℕ = level_at s.depth r.depth s.levels in
    let laid = c.pass-laid.ensures.laid in
    let low : level ≤ max_open = subst (λ (x : LaidLine). x.level ≤ max_open) laid c.pass-laid.ensures.small in
    let n = c.in-Some.number in
    let w = c.assign_cell_width-width.result in
    let column = c.assign_cell_column-column.result in
    let gap : ℕ = column - w + 1 in
    let own = c.assign_cell_width-width.ensures.value ∙ ap (λ (b : LaidLine). width (n - b.first) (plain_gaps b.level (text_of ts b)) (text_of ts b)) laid in
    subst (λ (x : LaidLine). gaps_in (shape x) (text_of ts x) ≡ align assign_cell (first_gaps s.depth s.levels (text_of ts x)) (text_of ts x) (Some c.run_with.result.column)) (sym (c.with_assign.ensures ∙ ap (λ (b : LaidLine). with_sign_at b n w gap) laid))
    (set_gaps ts s.depth r p s.levels level low refl n w gap c.in-Some.is own column refl
    ∙ ap (λ (k : ℕ). align assign_cell (first_gaps s.depth s.levels (text_in ts r)) (text_in ts r) (Some k)) (sym c.run_with.ensures.column))
