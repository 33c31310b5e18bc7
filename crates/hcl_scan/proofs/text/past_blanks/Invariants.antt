use Rattle.std.proofs.Common.{◌≡◌, ◌≤◌, ◌+◌, ◌-◌, slice_range}
use Rattle.std.specs.List.{prefix_len}
use Rattle.hcl_tokens.specs.Spelling.{is_blank}
use Rattle.hcl_scan.proofs.text.past_blanks.Given as goal

-- the blanks end at the same place from here on
abbrev pub invariant-loop-here : goal.invariant-loop-here
invariant-loop-here l = record { order : l.here ≤ l.end; same : l.at + prefix_len is_blank (slice_range l.text l.at l.end) ≡ l.here + prefix_len is_blank (slice_range l.text l.here l.end) }

abbrev pub decreases-loop-here : goal.decreases-loop-here
decreases-loop-here l = l.end - l.here
