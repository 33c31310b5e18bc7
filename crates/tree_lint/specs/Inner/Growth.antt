-- The numbers of a run with one more module.
use Rattle.std.specs.Prelude.{ℕ, ◌<◌, ◌≤◌, ◌+◌, ◌==◌, Bool, if◌then◌else◌, nat_lt}
use Rattle.tree_lint.specs.declared.counts.Counts.{Counts}

abbrev pub one_if : Bool → ℕ
one_if is_so = if is_so then 1 else 0

-- the numbers with one more module, if it counts as one, with this status and this many issues
abbrev pub counts_with : Counts → Bool → ℕ → ℕ → Counts
counts_with c is_one status n = record {
  modules = c.modules + one_if is_one;
  refused = c.refused + one_if (status == 1);
  reported = c.reported + one_if (nat_lt 0 n);
  issues = c.issues + n;
}

-- the numbers have room for one more module
pub record HasRoom (c : Counts) : Type 0 where
  pub modules : c.modules + 1 < 18446744073709551616
  pub refused : c.refused + 1 < 18446744073709551616
  pub reported : c.reported + 1 < 18446744073709551616
  pub issues : c.issues + 18446744073709551616 ≤ 340282366920938463463374607431768211456
