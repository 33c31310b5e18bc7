-- WHAT AN EDITOR IS TOLD of a file of a module: its issues, or why it is refused.
use Rattle.std.specs.Prelude.{ℕ, ◌==◌, List, [], ◌∷◌, Some, None, codes, filter, map}
use Rattle.hcl_source.specs.FaultTexts.{fault_text}
use Rattle.file_tree.specs.FaultTexts.{tree_fault_text}
use Rattle.text_places.specs.declared.ranges.Range.{Range}
use Rattle.module_check.specs.declared.state.FileState.{FileState}
use Rattle.module_check.specs.declared.state.FileState.TheVariants as state
use Rattle.module_check.specs.Faults.{front}
use Rattle.module_check.specs.Marks.{marked_range}
use Rattle.text_places.specs.declared.place.Units.{Units}
use Rattle.tf_rules.specs.declared.issue.Issue.{Issue}
use Rattle.editor_messages.specs.Diagnostics.{Diagnostic}

-- an issue of a text, marked where it is reported
abbrev pub issue_diagnostic : Units → List ℕ → Issue → Diagnostic
issue_diagnostic units text issue =
    record {
      range = marked_range units text issue.at;
      rule = Some issue.rule;
      text = issue.message;
    }

-- the issues of the file of this number
abbrev pub issue_diagnostics : Units → ℕ → List ℕ → List Issue → List Diagnostic
issue_diagnostics units number text issues =
    map (issue_diagnostic units text) (filter (λ issue. issue.file == number) issues)

-- why a file is refused
abbrev pub refusal : Range → List ℕ → List Diagnostic
refusal range text = record { range = range; rule = None; text = text } ∷ []

-- nothing is marked, at the file's front
abbrev pub at_front : List ℕ → List Diagnostic
at_front text = refusal (record { start = front; end = front }) text

-- THE DIAGNOSTICS of a file, by its number and its state among the module's issues
abbrev pub file_diagnostics : Units → List Issue → ℕ → FileState → List Diagnostic
file_diagnostics units issues number (state.Good source) =
    issue_diagnostics units number source issues
file_diagnostics units issues number (state.Refused source fault) =
    refusal (marked_range units source fault.at) (fault_text fault.kind)
file_diagnostics units issues number (state.NoText fault) = at_front (fault_text fault.kind)
file_diagnostics units issues number state.TooMuch = at_front (codes "module too large")
file_diagnostics units issues number (state.Unread fault) = at_front (tree_fault_text fault)
