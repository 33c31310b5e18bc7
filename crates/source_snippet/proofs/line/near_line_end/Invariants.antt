use Rattle.std.proofs.Common.{◌≡◌, ◌-◌, ◌<◌, ◌≤◌, ℕ, length, get_or}
use Rattle.source_snippet.proofs.line.near_line_end.Given as goal

-- no byte so far is LF, and they are not too many
abbrev pub invariant-loop-end : goal.invariant-loop-end
invariant-loop-end l = record { within : l.end ≤ length l.bytes; few : l.end ≤ 960; no_lf : (k : ℕ) → k < l.end → get_or l.bytes k 0 ≡ 10 → ⊥ }

abbrev pub decreases-loop-end : goal.decreases-loop-end
decreases-loop-end l = length l.bytes - l.end
