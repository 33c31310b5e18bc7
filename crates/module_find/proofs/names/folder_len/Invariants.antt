use Rattle.std.proofs.Common.{◌≡◌, ℕ, ◌≤◌, ◌<◌, length, get_or}
use Rattle.module_find.proofs.names.folder_len.Given as goal

-- no byte from here on is a slash
abbrev pub invariant-loop-len : goal.invariant-loop-len
invariant-loop-len l = record { within : l.len ≤ length l.path; no_slash : (k : ℕ) → l.len ≤ k → k < length l.path → get_or l.path k 0 ≡ 47 → ⊥ }

abbrev pub decreases-loop-len : goal.decreases-loop-len
decreases-loop-len l = l.len
