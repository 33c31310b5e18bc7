-- Accepted tokens never have more open than is allowed.
use Rattle.std.proofs.Common.{◌≡◌, ◌+◌, ◌-◌, ◌<◌, ◌≤◌, ℕ, suc, Bool, true, false, List, [], ◌∷◌, length, refl, sym, arith, take, drop}
use Rattle.std.proofs.lemmas.List.{take-append-drop}
use Rattle.std.specs.Prelude.{IsTrue, if◌then◌else◌, not, ◌&&◌}
use Rattle.hcl_tokens.specs.Lexemes.{Lexeme}
use Rattle.hcl_tokens.specs.declared.token.Kind.{Kind}
use Rattle.hcl_tokens.specs.Balanced.{IsBalanced, closers, openers, max_open}
use Rattle.hcl_grammar.specs.Items.{deepen}
use Rattle.hcl_layout.specs.Inner.Depths.{BalancedFrom}
use Rattle.hcl_tokens.specs.Balanced.{is_closer, is_opener}
use Rattle.hcl_spacing.proofs.KindLemmas.{each}

abbrev one_if : Bool → ℕ
one_if b = if b then 1 else 0

-- no kind both opens and closes
pub disjoint : (k : Kind) → is_opener k ≡ true → is_closer k ≡ false
disjoint k e = not_both (is_opener k) (is_closer k) (each (λ j. not (is_opener j && is_closer j)) refl k) e
  where
    not_both : (a b : Bool) → not (a && b) ≡ true → a ≡ true → b ≡ false
    not_both true true h e = sym h
    not_both true false h e = refl
    not_both false b h e = cc

-- every front of the list, from a depth on
abbrev Fronts : ℕ → List Lexeme → Type 0
Fronts d ts = (n : ℕ) → n ≤ length ts → (closers (take n ts) ≤ d + openers (take n ts)) × (d + openers (take n ts) ≤ closers (take n ts) + max_open)

step_by : (o c : Bool) (d : ℕ) → (o ≡ true → c ≡ false) → one_if c ≤ d + one_if o → d + one_if o ≤ one_if c + max_open
    → ((IsTrue o → d < max_open) × (IsTrue c → 0 < d))
    × ((x y : ℕ) → one_if c + y ≤ d + (one_if o + x) → d + (one_if o + x) ≤ one_if c + y + max_open
    → (y ≤ (d + one_if o - one_if c) + x) × ((d + one_if o - one_if c) + x ≤ y + max_open))
step_by true true d p q r = absurd (cc (p refl))
step_by true false d p q r = ((λ e. omega arith, λ e. cc), λ x y a b. (omega arith, omega arith))
step_by false true d p q r = ((λ e. cc, λ e. omega arith), λ x y a b. (omega arith, omega arith))
step_by false false d p q r = ((λ e. cc, λ e. cc), λ x y a b. (omega arith, omega arith))

fronts : (ts : List Lexeme) (d : ℕ) → Fronts d ts → BalancedFrom d ts
fronts [] d p = tt
fronts (t ∷ ts) d p =
    let o : (n : ℕ) → openers (take (suc n) (t ∷ ts)) ≡ one_if (is_opener t.kind) + openers (take n ts) =
    λ n. refl in
    let c : (n : ℕ) → closers (take (suc n) (t ∷ ts)) ≡ one_if (is_closer t.kind) + closers (take n ts) =
    λ n. refl in
    let first = p 1 (omega arith) in
    let step = step_by (is_opener t.kind) (is_closer t.kind) d (disjoint t.kind) (omega (arith, first.0, o 0, c 0)) (omega (arith, first.1, o 0, c 0)) in (
      step.0,
      fronts ts (deepen d t.kind) (λ n le. (let there = p (suc n) (omega arith) in
          step.1 (openers (take n ts)) (closers (take n ts)) (omega (arith, there.0, o n, c n)) (omega (arith, there.1, o n, c n)))),
    )

pub balanced_from : (ts : List Lexeme) → IsBalanced ts → BalancedFrom 0 ts
balanced_from ts p = fronts ts 0 (λ n le. (let w = p (take n ts) (drop n ts) (take-append-drop n ts) in (omega (arith, w.opened_first), omega (arith, w.few_open))))
