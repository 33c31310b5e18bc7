-- A gap of the layout fits between its neighbours, as the scan requires.
use Rattle.std.proofs.Common.{◌≡◌, ℕ, zero, suc, ◌&&◌, ◌||◌, ◌==◌, not, Bool, true, false, Option, Some, None, inl, inr, refl, sym, ap, subst, ◌∙◌, arith, cond}
use Rattle.std.specs.Prelude.{if◌then◌else◌}
use Rattle.std.proofs.lemmas.Bool.Decides.{nat_tests}
use Rattle.std.proofs.lemmas.Bool.{false≢true}
use Rattle.hcl_tokens.specs.Lexemes.{Lexeme}
use Rattle.hcl_tokens.specs.Neighbours as neighbours
use Rattle.hcl_tokens.specs.Regapped as regapped
use Rattle.hcl_tokens.specs.SideBySide.{Beside, opens_template}
use Rattle.hcl_tokens.specs.declared.token.Kind.{Kind}
use Rattle.hcl_tokens.specs.declared.token.Kind.TheVariants as kind
use Rattle.hcl_tokens.proofs.BooleanLemmas.{or_true}
use Rattle.hcl_scan.proofs.OtherStepLemmas.{touching}
use Rattle.hcl_scan.proofs.GapLemmas.{template_touches}
use Rattle.hcl_tokens.specs.Kinds.{is}
use Rattle.hcl_spacing.specs.Spacing.{follows_kind, has_blank}
use Rattle.hcl_layout.specs.Gaps.{blanks}
use Rattle.hcl_spacing.proofs.SpacingLemmas as rows
use Rattle.hcl_spacing.proofs.SpacingLemmas.{row_one}
use Rattle.hcl_spacing.proofs.JoiningLemmas.{joined_separated}
use Rattle.text_format.proofs.PrintGapLemmas.{is_cell, GapFor}

-- ---- one gap, the two tokens before it on the line, and the state of the scan there
abbrev pub Coherent : Option Lexeme → Option Lexeme → Bool → Kind → Type 0
Coherent before None dot k = k ≡ kind.Newline
Coherent before (Some u) dot k = (k ≡ u.kind) × (dot ≡ false → follows_kind (is kind.Dot) before ≡ false)

no_blank : (before : Option Lexeme) (u t : Lexeme) → has_blank before u t ≡ false → blanks before u t ≡ 0
no_blank before u t h = ap (λ v. if v then 1 else 0) h

one_blank : (before : Option Lexeme) (u t : Lexeme) → has_blank before u t ≡ true → blanks before u t ≡ 1
one_blank before u t h = ap (λ v. if v then 1 else 0) h

cell_outside : (t : Lexeme) → t.inside_heredoc ≡ true → is_cell t ≡ false
cell_outside t h = (λ i. (is kind.Assign t.kind && not (h i)) || (is kind.LineComment t.kind && not (h i))) ∙ by (is kind.Assign t.kind) (is kind.LineComment t.kind)
  where
    by : (a b : Bool) → ((a && false) || (b && false)) ≡ false
    by true true = refl
    by true false = refl
    by false true = refl
    by false false = refl

template_cell : (k : Kind) (n : Bool) → regapped.is_template k ≡ true → ((is kind.Assign k && n) || (is kind.LineComment k && n)) ≡ false
template_cell kind.Lit n h = refl
template_cell kind.InterpOpen n h = refl
template_cell kind.ControlOpen n h = refl
template_cell kind.QuoteClose n h = refl
template_cell kind.HeredocClose n h = refl
template_cell _ n h = absurd (false≢true h)

-- no gap, if the spacing gives none and no cell begins
zero_after : (before : Option Lexeme) (u t : Lexeme) (g : ℕ) → GapFor before (Some u) g t → has_blank before u t ≡ false → is_cell t ≡ false → g ≡ 0
zero_after before u t g (inl e) h c = e ∙ no_blank before u t h
zero_after before u t g (inr x) h c = absurd (let y = x.1 in cc)

zero_fits : (v : Bool) (g : ℕ) (j : Bool) → v ≡ true → g ≡ 0 → cond v (g == 0) (not (g == 0) || not j) ≡ true
zero_fits true g j h e = ap (λ n. n == 0) e
zero_fits false g j h e = absurd (cc)

free_fits : (v : Bool) (g : ℕ) (j : Bool) → v ≡ false → (g ≡ 0 → j ≡ true → ⊥) → cond v (g == 0) (not (g == 0) || not j) ≡ true
free_fits true g j h f = absurd (cc)
free_fits false zero true h f = absurd (f refl refl)
free_fits false zero false h f = refl
free_fits false (suc g) j h f = λ i. not (not_zero g i) || not j
  where
    not_zero : (g : ℕ) → (suc g == 0) ≡ false
    not_zero g = grind (arith, nat_tests)

is_comment : Kind → Bool
is_comment kind.LineComment = true
is_comment _ = false

comment_touches : (k : Kind) (t : Lexeme) → is_comment k ≡ true → (regapped.touches k t ≡ true) × (k ≡ kind.LineComment)
unfolding is_comment
comment_touches kind.LineComment t h = (refl, refl)
comment_touches _ t h = absurd (false≢true h)

free_touches : (k : Kind) (t : Lexeme) → is_comment k ≡ false → regapped.is_template t.kind ≡ false → t.inside_heredoc ≡ false → regapped.touches k t ≡ false
unfolding is_comment
free_touches kind.LineComment t h i e = absurd (cc)
free_touches _ t h i e = λ j. i j || e j

module _ (before u : Option Lexeme) (dot : Bool) (k : Kind) (g : ℕ) (t : Lexeme) (coherent : Coherent before u dot k) (gap : GapFor before u g t) (beside : Beside k t) where
  -- in a heredoc
  inside_zero : (u : Option Lexeme) → GapFor before u g t → t.inside_heredoc ≡ true → g ≡ 0
  inside_zero None gap e = gap e
  inside_zero (Some u) gap e = zero_after before u t g gap (row_one before u t (ap (λ v. is kind.Newline t.kind || v) e ∙ or_true (is kind.Newline t.kind))) (cell_outside t e)

  -- a token of a template, outside heredocs
  template_zero : (u : Option Lexeme) → Coherent before u dot k → GapFor before u g t → t.inside_heredoc ≡ false → regapped.is_template t.kind ≡ true → g ≡ 0
  template_zero None c gap e h = absurd (let x = beside.template e h in let y : opens_template k ≡ false = ap opens_template c in cc)
  template_zero (Some u) c gap e h =
      zero_after before u t g gap (rows.template_touches before u t e (sym (ap opens_template c.0) ∙ beside.template e h) h beside.closer) (template_cell t.kind (not t.inside_heredoc) h)

  -- after a comment
  comment_zero : (u : Option Lexeme) → Coherent before u dot k → GapFor before u g t → t.inside_heredoc ≡ false → k ≡ kind.LineComment → g ≡ 0
  comment_zero None c gap e h = absurd (let x : kind.Newline ≡ kind.LineComment = sym c ∙ h in cc)
  comment_zero (Some u) c gap e h =
      let n : t.kind ≡ kind.Newline = beside.comment e h in
      zero_after before u t g gap (row_one before u t (λ i. is kind.Newline (n i) || t.inside_heredoc)) (λ i. (is kind.Assign (n i) && not t.inside_heredoc) || (is kind.LineComment (n i) && not t.inside_heredoc))

  -- between neighbours that would join
  disjoint : (u : Option Lexeme) → Coherent before u dot k → GapFor before u g t → t.inside_heredoc ≡ false → regapped.is_template t.kind ≡ false → g ≡ 0 → neighbours.joins dot k t.kind t.text ≡ true → ⊥
  disjoint None c gap e h z j = let x : neighbours.joins dot kind.Newline t.kind t.text ≡ true = subst (λ (y : Kind). neighbours.joins dot y t.kind t.text ≡ true) c j in cc
  disjoint (Some u) c (inr x) e h z j = omega (arith, x.0, z)
  disjoint (Some u) c (inl x) e h z j =
      let j' : neighbours.joins dot u.kind t.kind t.text ≡ true = subst (λ (y : Kind). neighbours.joins dot y t.kind t.text ≡ true) c.0 j in
      omega (arith, one_blank before u t (joined_separated before u t dot e c.1 (beside.begins e h) (beside.tilde e) j'), x, z)

  pub fits_here : regapped.gap_fits dot k t g ≡ true
  fits_here = by (t.inside_heredoc) refl
    where
      outside : t.inside_heredoc ≡ false → (v : Bool) → regapped.is_template t.kind ≡ v → (w : Bool) → is_comment k ≡ w → regapped.gap_fits dot k t g ≡ true
      outside e true h w i = zero_fits (regapped.touches k t) g _ (template_touches k t h) (template_zero u coherent gap e h)
      outside e false h true i = let c = comment_touches k t i in zero_fits (regapped.touches k t) g _ c.0 (comment_zero u coherent gap e c.1)
      outside e false h false i = free_fits (regapped.touches k t) g _ (free_touches k t i h e) (disjoint u coherent gap e h)

      by : (v : Bool) → t.inside_heredoc ≡ v → regapped.gap_fits dot k t g ≡ true
      by true e = zero_fits (regapped.touches k t) g _ (touching k t e) (inside_zero u gap e)
      by false e = outside e (regapped.is_template t.kind) refl (is_comment k) refl

-- one token further
pub coherent_on : (before u : Option Lexeme) (dot : Bool) (k : Kind) (t : Lexeme) → Coherent before u dot k → Coherent u (Some t) (is kind.Dot k) t.kind
coherent_on before None dot k t c = (refl, λ e. refl)
coherent_on before (Some u) dot k t c = (refl, λ e. ap (is kind.Dot) (sym c.0) ∙ e)
