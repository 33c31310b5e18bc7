-- The level of a line: the number of lines before it that open a group which is still open. A line with more openers
-- than closers opens a group, and the group is open as long as the lines from there on have more openers than closers.
-- Our own choice, in the style of `terraform fmt`: two openers on one line indent by one level.
use Rattle.std.specs.Prelude.{◌+◌, ◌&&◌, ℕ, Bool, true, List, [], ◌∷◌, ◌++◌, nat_lt, if◌then◌else◌}
use Rattle.hcl_tokens.specs.Balanced.{closers, openers}
use Rattle.hcl_layout.specs.Lines.{Line}

-- numbers of openers and closers
pub record Net : Type 0 where
  pub opens : ℕ
  pub closes : ℕ

abbrev pub no_net : Net
no_net = record { opens = 0; closes = 0 }

abbrev pub plus : Net → Net → Net
plus a b = record { opens = a.opens + b.opens; closes = a.closes + b.closes }

-- the openers and the closers of a line
abbrev pub net_of : Line → Net
net_of line = record { opens = openers line; closes = closers line }

-- more openers than closers
abbrev pub is_above : Net → Bool
is_above n = nat_lt n.closes n.opens

-- line after line, the lines so far have more openers than closers
abbrev pub stays_above : Net → List Net → Bool
stays_above sum [] = true
stays_above sum (n ∷ rest) = is_above (plus sum n) && stays_above (plus sum n) rest

-- the level of line n after these lines: the number of lines that open a group after which the depth stays above the
-- depth before them, up to n
abbrev pub level : List Net → Net → ℕ
level [] n = 0
level (m ∷ rest) n = (if stays_above no_net (m ∷ (rest ++ n ∷ [])) then 1 else 0) + level rest n

-- the levels of all lines, each after those before it
abbrev pub levels_after : List Net → List Net → List ℕ
levels_after before [] = []
levels_after before (n ∷ rest) = level before n ∷ levels_after (before ++ n ∷ []) rest

abbrev pub levels : List Net → List ℕ
levels = levels_after []
