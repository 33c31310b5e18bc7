-- The visible and the hidden text after a token: it opens a heredoc, or hides nothing.
use Rattle.std.proofs.Common.{◌≡◌, ℕ, Bool, true, false, List, ◌∷◌, take, drop, refl, sym, subst}
use Rattle.hcl_tokens.specs.Lexemes.{marker_of}
use Rattle.hcl_tokens.specs.Scans.{Hidden, hides, IsFirstMarkerLine, Leaves}
use Rattle.hcl_tokens.specs.declared.token.Kind.{Kind}
use Rattle.hcl_tokens.specs.declared.token.Kind.TheVariants.{HeredocOpen}

abbrev pub opens_heredoc : Kind → Bool
opens_heredoc HeredocOpen = true
opens_heredoc _ = false

-- a token opens a heredoc, or hides nothing
pub data Shown (kind : Kind) (text rest : List ℕ) (hidden : List Hidden) (seen' : List ℕ) (hidden' : List Hidden) : Type 0 where
  opening : kind ≡ HeredocOpen → (n : ℕ) → IsFirstMarkerLine (marker_of text) rest n → seen' ≡ take n rest → hidden' ≡ hides (marker_of text) (drop n rest) ∷ hidden → Shown kind text rest hidden seen' hidden'
  plain : opens_heredoc kind ≡ false → seen' ≡ rest → hidden' ≡ hidden → Shown kind text rest hidden seen' hidden'

pub shown : (kind : Kind) (text rest : List ℕ) (hidden : List Hidden) (seen' : List ℕ) (hidden' : List Hidden) → Leaves kind text rest hidden seen' hidden' → Shown kind text rest hidden seen' hidden'
shown HeredocOpen text rest hidden seen' hidden' h = opening refl h.0 h.1 h.2 h.3
shown _ text rest hidden seen' hidden' h = plain refl h.0 h.1

pub plain_shows : (kind : Kind) (text rest : List ℕ) (hidden : List Hidden) → opens_heredoc kind ≡ false → Leaves kind text rest hidden rest hidden
plain_shows HeredocOpen text rest hidden h = absurd (cc)
plain_shows _ text rest hidden h = (refl, refl)

pub open_shows : (kind : Kind) (text rest : List ℕ) (hidden : List Hidden) (seen' : List ℕ) (hidden' : List Hidden) → kind ≡ HeredocOpen → (n : ℕ) → IsFirstMarkerLine (marker_of text) rest n → seen' ≡ take n rest → hidden' ≡ hides (marker_of text) (drop n rest) ∷ hidden → Leaves kind text rest hidden seen' hidden'
open_shows kind text rest hidden seen' hidden' k n first e e' = subst (λ (z : Kind). Leaves z text rest hidden seen' hidden') (sym k) (n, first, e, e')
