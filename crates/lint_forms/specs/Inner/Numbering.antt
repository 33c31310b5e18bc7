-- How often each digest occurred.
use Rattle.std.specs.Prelude.{◌≡◌, ◌+◌, ℕ, List, String, if◌then◌else◌}
use Rattle.std.specs.BTreeMap.{BTreeMap, get_by_text}
use Rattle.std.specs.Option.{unwrap_or}
use Rattle.std.specs.Str.{bytes_eq}

abbrev pub times_seen : {Y : Type 0} → BTreeMap (String Y) ℕ → List ℕ → ℕ
times_seen m digits = unwrap_or (get_by_text m digits) 0

-- these digits occurred once more
abbrev pub OnceMore : {Y : Type 0} → BTreeMap (String Y) ℕ → BTreeMap (String Y) ℕ → List ℕ → Type 0
OnceMore old new digits = (q : List ℕ) → times_seen new q ≡ times_seen old q + (if bytes_eq q digits then 1 else 0)
