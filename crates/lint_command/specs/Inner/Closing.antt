-- The end of a run after the modules were linted.
use Rattle.std.specs.Prelude.{◌≡◌, ◌⊎◌, ◌||◌, ℕ, Bool, true, List, Option, codes, is_some, if◌then◌else◌}
use Rattle.command_line.specs.Rows.{Took, Writer, error_line}
use Rattle.file_tree.specs.declared.walk.Found.{Found}
use Rattle.lint_forms.specs.declared.kind.Form.{Form}
use Rattle.module_config.specs.declared.configure.Configured.{Configured}
use Rattle.module_find.specs.Refusals.{tree_linter}
use Rattle.tree_lint.specs.Runs.{worse_status}
use Rattle.tree_lint.specs.declared.run.RunEnd.{RunEnd}
use Rattle.lint_command.specs.Ends.{IsFoot, fault_status, last_words}

-- the status of a run, unless a write fails
abbrev pub last_status : RunEnd → List Found → Configured → ℕ
last_status ran faults config = worse_status ran.status (fault_status faults config.unlinted)

-- memory ran out for a form, and standard output is unchanged; or the foot was written, and the last message shown
abbrev pub Closes : Option Form → Bool → Configured → List Found → RunEnd → Writer → Writer → Type 0 → ℕ → Type 0
Closes form quiet config faults ran out err Untouched status =
    ((is_some form ≡ true) × Untouched × Took err (error_line tree_linter (codes "out of memory")) × (status ≡ 1))
    ⊎ ((foot : List ℕ) × IsFoot form (last_status ran faults config) ran faults config foot × Took out foot
    × Took err (last_words quiet out.failed faults config ran.counts) × (status ≡ (if out.failed || err.failed then 1 else last_status ran faults config)))
