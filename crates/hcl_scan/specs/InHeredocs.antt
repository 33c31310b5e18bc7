-- Two readings inside the same heredocs, with different text after the outermost of them. It follows from the scan: the
-- law `heredoc_kept`.
use Rattle.std.specs.Prelude.{◌≡◌, ℕ, List, [], ◌∷◌}
use Rattle.hcl_tokens.specs.Lexemes.{Lexeme}
use Rattle.hcl_tokens.specs.Scans.{Hidden, Next, State}

-- the hidden text of the heredocs, with other text after the closing marker of the outermost
abbrev pub after_last : List ℕ → List Hidden → List Hidden
after_last other [] = []
after_last other (h ∷ []) = record { closer = h.closer; after = other } ∷ []
after_last other (h ∷ k ∷ hs) = h ∷ after_last other (k ∷ hs)

-- both have the same open, visible and hidden, except for the text after the outermost heredoc; the offsets may differ
pub record SameInside (other : List ℕ) (s twin : State) : Type 0 where
  pub opens : twin.opens ≡ s.opens
  pub after_dot : twin.after_dot ≡ s.after_dot
  pub seen : twin.seen ≡ s.seen
  pub hidden : twin.hidden ≡ after_last other s.hidden

-- the token at another offset
abbrev pub at_offset : ℕ → Lexeme → Lexeme
at_offset at t =
    record { kind = t.kind; text = t.text; start = at; inside_heredoc = t.inside_heredoc }

-- the twin reads the token that led to `next`, and is where `next` is
pub record ReadsToo (other : List ℕ) (twin : State) (t : Lexeme) (next : State) : Type 0 where
  pub state : State
  pub read : Next twin (at_offset twin.at t) state
  pub same : SameInside other next state
