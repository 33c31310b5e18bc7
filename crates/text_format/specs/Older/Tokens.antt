-- Tokens by the table before names with `::`, to state that older files are read as before: no kind was ColonColon.
-- Everything else was as it is now, so only the definitions that depend on the spelling of a kind are repeated
-- (`Spelling` and `Scans` of `hcl_tokens`).
use Rattle.std.specs.Prelude.{◌≡◌, ◌≢◌, ◌+◌, ◌<◌, ◌≤◌, ℕ, Bool, List, [], ◌∷◌, ◌++◌, length, ◌⊎◌}
use Rattle.hcl_tokens.specs.Lexemes.{Lexeme, Opener, in_heredoc, open_after, max_open}
use Rattle.hcl_tokens.specs.Spelling.{IsSpelling}
use Rattle.hcl_tokens.specs.Kinds.{is}
use Rattle.hcl_tokens.specs.Scans.{State, begin, ahead, gap_len, offsets_of, Leaves, Closes, IsComplete}
use Rattle.hcl_tokens.specs.declared.token.Kind.{Kind}
use Rattle.hcl_tokens.specs.declared.token.Kind.TheVariants.{ColonColon, Dot}

abbrev pub WasSpelling : List Opener → Bool → Kind → List ℕ → List ℕ → Type 0
WasSpelling opens after_dot kind text rest =
    (kind ≢ ColonColon) × IsSpelling opens after_dot kind text rest

pub record WasLongest (opens : List Opener) (after_dot : Bool) (seen : List ℕ) (kind : Kind)
    (text rest : List ℕ) : Type 0 where
  pub whole : text ++ rest ≡ seen
  pub spelled : WasSpelling opens after_dot kind text rest
  pub longest : (other : Kind) (longer left : List ℕ) → longer ++ left ≡ seen
      → length text < length longer → ¬ WasSpelling opens after_dot other longer left

pub record WasRead (s : State) (t : Lexeme) (next : State) : Type 0 where
  pub rest : List ℕ
  pub longest : WasLongest s.opens s.after_dot (ahead s) t.kind t.text rest
  pub start : t.start ≡ s.at + gap_len s
  pub inside : t.inside_heredoc ≡ in_heredoc s.opens
  pub at : next.at ≡ t.start + length t.text
  pub opens : next.opens ≡ open_after t.kind s.opens
  pub offsets : next.offsets ≡ offsets_of t.start s.opens next.opens s.offsets
  pub room : length next.opens ≤ max_open
  pub after_dot : next.after_dot ≡ is Dot t.kind
  pub leaves : Leaves t.kind t.text rest s.hidden next.seen next.hidden

abbrev pub WasNext : State → Lexeme → State → Type 0
WasNext s t next = WasRead s t next ⊎ Closes s t next

abbrev pub WasRun : State → List Lexeme → State → Type 0
WasRun s [] end = s ≡ end
WasRun s (t ∷ ts) end = (next : State) × WasNext s t next × WasRun next ts end

abbrev pub WasScanned : List ℕ → List Lexeme → Type 0
WasScanned text ts = (end : State) × WasRun (begin text) ts end × IsComplete end

-- no token is a `::`
abbrev pub HasNoPath : List Lexeme → Type 0
HasNoPath [] = Unit {0}
HasNoPath (t ∷ ts) = (t.kind ≢ ColonColon) × HasNoPath ts
