-- The message at the end of a run over modules: how many issues it found, and in how many of them. Our own choice.
use Rattle.std.specs.Prelude.{ℕ, ◌==◌, ◌&&◌, not, Bool, true, false, List, ◌++◌, Ok, Err, codes, decimal, length, nat_lt, if◌then◌else◌}
use Rattle.std.specs.List.{count_by, sum_by}
use Rattle.module_find.specs.declared.module.Module.{Module}
use Rattle.tree_lint.specs.Verdicts.{Verdict}
use Rattle.tree_lint.specs.declared.counts.Counts.{Counts}
use Rattle.module_find.specs.declared.policy.Governed.{Governed}

-- whether a module counts as one: it has a file, or isn't whole
abbrev pub is_module : Module → Bool
is_module m = not (length m.files.items == 0 && m.is_whole)

abbrev pub is_refused : Verdict → Bool
is_refused (Ok linted) = false
is_refused (Err refusals) = true

abbrev pub issue_count : Verdict → ℕ
issue_count (Ok linted) = length linted.issues
issue_count (Err refusals) = 0

abbrev pub has_issues : Verdict → Bool
has_issues v = nat_lt 0 (issue_count v)

-- THE NUMBERS of a run over these modules, with these verdicts
abbrev pub counts_of : List Governed → List Verdict → Counts
counts_of modules verdicts = record {
  modules = count_by (λ m. is_module m.module) modules;
  refused = count_by is_refused verdicts;
  reported = count_by has_issues verdicts;
  issues = sum_by issue_count verdicts;
}

-- ---- the message

abbrev pub modules_word : ℕ → List ℕ
modules_word n = if n == 1 then codes " module" else codes " modules"

abbrev pub issues_word : ℕ → List ℕ
issues_word n = if n == 1 then codes " issue in " else codes " issues in "

-- `7 issues in 3 of `, or `no issues in `
abbrev pub issues_words : Counts → List ℕ
issues_words c =
    if c.issues == 0 then codes "no issues in "
    else decimal c.issues ++ (issues_word c.issues ++ (decimal c.reported ++ codes " of "))

-- `12 modules`, and `, 1 refused` if there is one
abbrev pub modules_words : Counts → List ℕ
modules_words c =
    if c.refused == 0 then decimal c.modules ++ (modules_word c.modules ++ codes "\n")
    else decimal c.modules
    ++ (modules_word c.modules ++ (codes ", " ++ (decimal c.refused ++ codes " refused\n")))

abbrev pub some_line : Counts → List ℕ
some_line c = issues_words c ++ modules_words c

-- THE LAST LINE of a run
abbrev pub summary_line : Counts → List ℕ
summary_line c = if c.modules == 0 then codes "no modules found\n" else some_line c
