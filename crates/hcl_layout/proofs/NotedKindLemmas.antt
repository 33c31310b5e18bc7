-- The facts about kinds in a walk along a line, proved by trying each kind.
use Rattle.std.proofs.Common.{◌≡◌, ◌∙◌, ◌&&◌, ◌||◌, ◌+◌, ◌-◌, ◌≤◌, ℕ, Bool, true, false, not, ap, refl, sym, arith}
use Rattle.hcl_tokens.specs.Balanced.{is_closer, is_opener}
use Rattle.hcl_tokens.specs.Lexemes.{Lexeme}
use Rattle.hcl_tokens.specs.declared.token.Kind.{Kind}
use Rattle.hcl_tokens.specs.Kinds.{is}
use Rattle.hcl_tokens.specs.declared.token.Kind.TheVariants as kind
use Rattle.hcl_grammar.specs.Items.{deepen}
use Rattle.hcl_layout.specs.Inner.Depths.{Steps}
use Rattle.hcl_layout.specs.Lines.{ends_line}
use Rattle.hcl_layout.specs.Inner.Survey.{marks, step_of, stops}
use Rattle.hcl_spacing.proofs.KindLemmas.{each}

pub passes : (a b : Bool) → (a || not b) ≡ true → a ≡ false → b ≡ false
passes a true h e = cc
passes a false h e = refl

-- a kind that needs no closer look is no cell and tears none
pub unstopped_unmarked : (k : Kind) → stops k ≡ false → marks k ≡ false
unstopped_unmarked k e = passes (stops k) (marks k) (each (λ j. stops j || not (marks j)) refl k) e

-- nor does it end the line
pub unstopped_goes_on : (t : Lexeme) → stops t.kind ≡ false → ends_line t ≡ false
unstopped_goes_on t e = rw (passes (stops t.kind) (is kind.Newline t.kind) (each (λ j. stops j || not (is kind.Newline j)) refl t.kind) e) refl

-- a newline neither changes the depth nor tears a cell
pub end_stops : (t : Lexeme) → ends_line t ≡ true → stops t.kind ≡ true
end_stops t e = go (is kind.Newline t.kind) refl e
  where
    go : (v : Bool) → is kind.Newline t.kind ≡ v → (v && not t.inside_heredoc) ≡ true → stops t.kind ≡ true
    go true q h = rw q refl
    go false q h = cc

-- ---- the steps

-- the effect of a step with a digit on a depth that is allowed for a token of its kind
pub record Stepped (d step : ℕ) (k : Kind) : Type 0 where
  pub on : stops k ≡ false
  pub rises : step ≤ 50
  pub stays : 49 ≤ d + step
  pub deepens : d + step ≡ deepen d k + 49

unstopped : (k : Kind) → (step_of k ≡ 46 → ⊥) → stops k ≡ false
unstopped k h = go (stops k) refl
  where
    go : (v : Bool) → stops k ≡ v → stops k ≡ false
    go true q = absurd (h (rw q refl))
    go false q = q

pub steps_deepen : (k : Kind) (d step : ℕ) → step ≡ step_of k → (step ≡ 46 → ⊥) → Steps d k → Stepped d step k
steps_deepen k d step e more s =
    go (unstopped k (λ h. more (e ∙ h))) (is_opener k) refl (is_closer k) refl (each (λ j. not (is_opener j && is_closer j)) refl k)
  where
    go : stops k ≡ false → (o : Bool) → is_opener k ≡ o → (c : Bool) → is_closer k ≡ c → not (is_opener k && is_closer k) ≡ true → Stepped d step k
    go on true p true q h = let never : false ≡ true = rw (p, q) at h in absurd (cc)
    go on true p false q h =
        let is : step ≡ 50 = e ∙ rw (on, p, q) refl in
        let deep : deepen d k ≡ d + 1 = rw (p, q) (omega arith) in
        record { on = on; rises = omega (arith, is); stays = omega (arith, is); deepens = omega (arith, is, deep) }
    go on false p true q h =
        let is : step ≡ 48 = e ∙ rw (on, p, q) refl in
        let deep : deepen d k ≡ d - 1 = rw (p, q) (omega arith) in
        record { on = on; rises = omega (arith, is); stays = omega (arith, is, s.1 q); deepens = omega (arith, is, deep, s.1 q) }
    go on false p false q h =
        let is : step ≡ 49 = e ∙ rw (on, p, q) refl in
        let deep : deepen d k ≡ d = rw (p, q) (omega arith) in
        record { on = on; rises = omega (arith, is); stays = omega (arith, is); deepens = omega (arith, is, deep) }

-- a point marks the kinds that need a closer look; they open and close nothing
pub pointed : (k : Kind) (step : ℕ) → step ≡ step_of k → step ≡ 46 → stops k ≡ true
pointed k step e is = go (stops k) refl
  where
    no : (n : ℕ) → 48 + n ≡ 46 → ⊥
    no n h = omega (arith, h)

    go : (v : Bool) → stops k ≡ v → stops k ≡ true
    go true q = q
    go false q = let same : 48 + deepen 1 k ≡ step_of k = rw q refl in absurd (no (deepen 1 k) (same ∙ sym e ∙ is))

pub stopped_level : (k : Kind) (d : ℕ) → stops k ≡ true → deepen d k ≡ d
stopped_level k d e =
    let opener : is_opener k ≡ false = passes (not (stops k)) (is_opener k) (each (λ j. not (stops j) || not (is_opener j)) refl k) (ap not e) in
    let closer : is_closer k ≡ false = passes (not (stops k)) (is_closer k) (each (λ j. not (stops j) || not (is_closer j)) refl k) (ap not e) in
    rw (opener, closer) (omega arith)
