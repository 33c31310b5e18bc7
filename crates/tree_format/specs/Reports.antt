-- The report on each file that a run looks at, with the status of the file, and the status of the run. Names in it are
-- quoted as messages show them. The texts and statuses are our own choice.
use Rattle.std.specs.Prelude.{ℕ, Option, Some, None, List, [], ◌∷◌, ◌++◌, ◌==◌, ◌||◌, codes, fold, max, if◌then◌else◌}
use Rattle.std.specs.declared.alloc.Global.{Global}
use Rattle.std.specs.declared.vec.Vec.{Vec}
use Rattle.command_line.specs.Rows.{Row, fault_words, line, message_row, output_row}
use Rattle.hcl_source.specs.declared.fault.Fault.{Fault}
use Rattle.file_tree.specs.Files.{Name}
use Rattle.file_tree.specs.FaultTexts.{tree_fault_text}
use Rattle.file_tree.specs.Quotes.{shown_name}
use Rattle.file_tree.specs.declared.tree.Replaced.{Replaced}
use Rattle.file_tree.specs.declared.tree.Replaced.TheVariants.{Kept, Narrowed}
use Rattle.tree_format.specs.declared.mode.Ending.{Ending}
use Rattle.tree_format.specs.declared.mode.Ending.TheVariants.{Line, Null}
use Rattle.tree_format.specs.declared.mode.Mode.{Mode}
use Rattle.tree_format.specs.declared.mode.Mode.TheVariants.{Write, Check, List as Listed, Diff}
use Rattle.tree_format.specs.declared.outcome.Outcome.{Outcome}
use Rattle.tree_format.specs.declared.outcome.Outcome.TheVariants as outcome

-- `NAME: TEXT`
abbrev pub about : Name → List ℕ → List ℕ
about name text = shown_name name ++ (codes ": " ++ line text)

-- the line of a printed name: quoted as in messages, or the plain name and NUL
abbrev pub name_line : Ending → Name → List ℕ
name_line Line name = line (shown_name name)
name_line Null name = name ++ 0 ∷ []

-- the message about the rights to a file that was written
abbrev pub rights_words : Replaced → Name → List ℕ
rights_words Kept name = []
rights_words Narrowed name =
    about name (codes "its group cannot be kept: group and others have the rights that both had")

-- a file isn't formatted, or wasn't before
abbrev pub changed_report : Mode → Replaced → Name → Row
changed_report (Write writing) how name =
    record { out = line (shown_name name); err = rights_words how name; status = 0 }
changed_report Check how name = message_row (about name (codes "not formatted")) 3
changed_report (Listed ending) how name = output_row (name_line ending name) 3
changed_report Diff how name = output_row (line (shown_name name)) 3

-- the message for a refused file: the place and the fault, and below it the line that is shown
abbrev pub refused_words : Name → Fault → List ℕ → List ℕ
refused_words name fault snippet = (shown_name name ++ (codes ":" ++ fault_words fault)) ++ snippet

-- the line that a look shows of a refused file
abbrev pub snippet_text : Option (Vec ℕ Global) → List ℕ
snippet_text None = []
snippet_text (Some text) = text.items

abbrev pub report_of : Mode → Name → Outcome → Row
report_of mode name outcome.Formatted = output_row [] 0
report_of mode name (outcome.Changed how) = changed_report mode how name
report_of mode name (outcome.Differs text) = output_row text.items 3
report_of mode name (outcome.Refused fault snippet) =
    message_row (refused_words name fault (snippet_text snippet)) 2
report_of mode name (outcome.Failed fault) = message_row (about name (tree_fault_text fault)) 4

-- 4 is worse than 2, 2 is worse than 3, and 3 than 0
abbrev pub worse_status : ℕ → ℕ → ℕ
worse_status one other =
    if one == 4 || other == 4 then 4 else (if one == 2 || other == 2 then 2 else max one other)

abbrev pub worst_status : List ℕ → ℕ
worst_status statuses = fold worse_status 0 statuses
