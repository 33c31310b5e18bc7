-- The depth of a token list after each token, and the levels of lines by depth: the form in which the code keeps the
-- open groups. The levels of whole lists are the same (proofs/LevelLemmas).
use Rattle.std.specs.Prelude.{◌≡◌, ◌<◌, ◌≤◌, ◌+◌, ◌-◌, ℕ, suc, zero, List, [], ◌∷◌, length, get_or, slice_set, min, replicate, IsTrue}
use Rattle.hcl_tokens.specs.Lexemes.{Lexeme}
use Rattle.hcl_tokens.specs.declared.token.Kind.{Kind}
use Rattle.hcl_tokens.specs.Balanced.{closer_count, is_closer, is_opener, opener_count, max_open}
use Rattle.hcl_grammar.specs.Items.{deepen}
use Rattle.hcl_layout.specs.Levels.{Net}

-- the openers and the closers of a token
abbrev pub net_of_kind : Kind → Net
net_of_kind k = record { opens = opener_count k; closes = closer_count k }

abbrev pub depth_after : ℕ → List Lexeme → ℕ
depth_after d [] = d
depth_after d (t ∷ ts) = depth_after (deepen d t.kind) ts

-- a token that is allowed at this depth
abbrev pub Steps : ℕ → Kind → Type 0
Steps d k = (IsTrue (is_opener k) → d < max_open) × (IsTrue (is_closer k) → 0 < d)

-- no front opens more than is allowed, from this depth on
abbrev pub BalancedFrom : ℕ → List Lexeme → Type 0
BalancedFrom d [] = Unit {0}
BalancedFrom d (t ∷ ts) = Steps d t.kind × BalancedFrom (deepen d t.kind) ts

-- For each depth up to that of the last line, the number of open groups above which the depth stays: the level of a
-- next line that ends there. A line that goes deeper has the level of the depth before it.
abbrev pub fresh_levels : List ℕ
fresh_levels = replicate (max_open + 1) 0

abbrev pub level_at : ℕ → ℕ → List ℕ → ℕ
level_at before now levels = get_or levels (min before now) 0

-- from a depth on, this many depths have this level
abbrev pub with_level : List ℕ → ℕ → ℕ → ℕ → List ℕ
with_level levels level from zero = levels
with_level levels level from (suc n) = with_level (slice_set levels from level) level (from + 1) n

-- the levels after a line
abbrev pub next_levels : ℕ → ℕ → List ℕ → List ℕ
next_levels before now levels = with_level levels (get_or levels before 0 + 1) (before + 1) (now - before)

-- no level is more than its depth
abbrev pub Sound : ℕ → List ℕ → Type 0
Sound depth levels = (length levels ≡ (max_open + 1)) × ((k : ℕ) → k ≤ depth → get_or levels k 0 ≤ k)
