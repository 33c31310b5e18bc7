-- The message about all files at the end of a run. Our own choice.
use Rattle.std.specs.Prelude.{◌≡◌, ℕ, ◌==◌, ◌&&◌, Bool, true, false, List, [], ◌++◌, codes, decimal, if◌then◌else◌}
use Rattle.std.specs.List.{count_by}
use Rattle.command_line.specs.Rows.{End}
use Rattle.file_tree.specs.declared.walk.Found.{Found}
use Rattle.tree_format.specs.Runs.{IsRun, is_failed}
use Rattle.tree_format.specs.States.{State}
use Rattle.tree_format.specs.declared.mode.Mode.{Mode}
use Rattle.tree_format.specs.declared.mode.Mode.TheVariants.{Write}
use Rattle.tree_format.specs.declared.outcome.Outcome.{Outcome}
use Rattle.tree_format.specs.declared.outcome.Outcome.TheVariants as outcome
use Rattle.tree_format.specs.declared.tally.Tally.{Tally}

abbrev pub is_formatted : Outcome → Bool
is_formatted outcome.Formatted = true
is_formatted _ = false

abbrev pub is_changed : Outcome → Bool
is_changed (outcome.Changed how) = true
is_changed (outcome.Differs text) = true
is_changed _ = false

abbrev pub is_refused : Outcome → Bool
is_refused (outcome.Refused fault snippet) = true
is_refused _ = false

abbrev pub tally_of : List Outcome → Tally
tally_of answers = record {
  changed = count_by is_changed answers;
  unchanged = count_by is_formatted answers;
  refused = count_by is_refused answers;
  failed = count_by is_failed answers;
}

-- the text after a number of files
abbrev pub files_word : ℕ → List ℕ
files_word n = if n == 1 then codes " file" else codes " files"

-- how the message counts files that weren't formatted: as formatted, or as not formatted
abbrev pub changed_words : Mode → List ℕ
changed_words (Write writing) = codes " formatted, "
changed_words mode = codes " not formatted, "

abbrev pub counts_words : Mode → Tally → List ℕ
counts_words mode t =
    decimal t.changed
    ++ (files_word t.changed ++ (changed_words mode ++ (decimal t.unchanged ++ codes " unchanged")))

-- `, N WORD`, or nothing if N is 0
abbrev pub part : ℕ → List ℕ → List ℕ
part n word = if n == 0 then [] else codes ", " ++ (decimal n ++ word)

abbrev pub faults_words : Tally → List ℕ
faults_words t = part t.refused (codes " refused") ++ part t.failed (codes " failed")

-- no file was found
abbrev pub is_empty : Tally → Bool
is_empty t = t.changed == 0 && t.unchanged == 0 && t.refused == 0 && t.failed == 0

-- THE LAST LINE of a run over some files: how many files it formatted, or found not to be formatted, and how many are
-- unchanged; and, unless they are 0, how many were refused, and how many could not be looked at
abbrev pub tally_line : Mode → Tally → List ℕ
tally_line mode t = counts_words mode t ++ (faults_words t ++ codes "\n")

abbrev pub end_line : Mode → Tally → List ℕ
end_line mode t = if is_empty t then codes "no files found\n" else tally_line mode t

-- a run over these names without a last message, and the tally of its answers
abbrev pub Tallies : Bool → Mode → List Found → State → State → End → Tally → Type 0
Tallies shows mode found before after end tally =
    (run : IsRun shows mode found (λ answers. []) before after end) × (tally ≡ tally_of run.answers)
