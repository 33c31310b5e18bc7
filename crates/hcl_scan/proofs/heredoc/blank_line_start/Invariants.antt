use Rattle.std.proofs.Common.{◌≡◌, ℕ, ◌≤◌, ◌<◌, true, get_or}
use Rattle.hcl_tokens.specs.Spelling.{is_blank}
use Rattle.hcl_scan.proofs.heredoc.blank_line_start.Given as goal

-- only blanks are from here up to the place
abbrev pub invariant-loop-start : goal.invariant-loop-start
invariant-loop-start l = record { before : l.start ≤ l.place; blank : (k : ℕ) → l.start ≤ k → k < l.place → is_blank (get_or l.text k 0) ≡ true }

abbrev pub decreases-loop-start : goal.decreases-loop-start
decreases-loop-start l = l.start
