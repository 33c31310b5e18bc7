-- The output and the messages for one module.
use Rattle.std.specs.Prelude.{◌≡◌, ◌⊎◌, ◌==◌, ◌&&◌, ℕ, Bool, false, List, [], ◌∷◌, Some, Ok, Err, length, map}
use Rattle.tree_lint.specs.CommentFaults.{fault_view}
use Rattle.tree_lint.specs.declared.comment_fault.CommentFault as found
use Rattle.command_line.specs.Rows.{Took, Writer}
use Rattle.file_tree.specs.Files.{Name}
use Rattle.module_find.specs.declared.module.Module.{Module}
use Rattle.module_find.specs.KeptRefusals.{KeepsAll}
use Rattle.tree_lint.specs.Numbers.{issue_count}
use Rattle.module_find.specs.Refusals.{refusal_line}
use Rattle.tree_lint.specs.Runs.{is_shown, refusals_of, verdict_message, verdict_output, verdict_status}
use Rattle.tree_lint.specs.Verdicts.{Linted, Verdict, no_memory}
use Rattle.tree_lint.specs.declared.counts.Ended.{Ended}
use Rattle.module_find.specs.declared.kept.KeptRefusals.{KeptRefusals}
use Rattle.tree_lint.specs.declared.linted.Linted as code
use Rattle.tree_lint.specs.declared.run.ModuleTask.{ModuleTask}

-- the view of the result for a module
abbrev pub linted_view : code.Linted → Linted
linted_view l = record { issues = l.issues.now; comments = map fault_view l.comments.now; texts = l.texts.now }

abbrev pub is_nothing : Linted → Bool
is_nothing l = (length l.issues == 0) && (length l.comments == 0)

-- a verdict with this property is shown, and its refusals are kept
pub record Shows (task : ModuleTask) (m : Module) (P : Verdict → Type 0) (out err : Writer) (before after : KeptRefusals) (ended : Ended) : Type 0 where
  pub verdict : Verdict
  pub holds : P verdict
  pub output : Took out (verdict_output task.manner task.is_after m verdict)
  pub message : Took err (verdict_message task.manner.terminals.err m verdict)
  pub kept : KeepsAll before after (refusals_of verdict)
  pub exit : ended.status ≡ verdict_status task.policy verdict
  pub issues : ended.issues ≡ issue_count verdict
  pub shown : ended.is_shown ≡ is_shown task.manner.form verdict

-- the verdict is this result for the module, or that memory ran out
abbrev pub HasOrNoMemory : Module → Linted → Verdict → Type 0
HasOrNoMemory m linted v = (v ≡ Ok linted) ⊎ (v ≡ Err (no_memory m ∷ []))

-- the line of a comment in the file of this name, with this part of the file's text
abbrev pub comment_refusal : Name → List ℕ → found.CommentFault → List ℕ
comment_refusal name snippet f = refusal_line (record { name = name; at = Some (fault_view f).at; text = (fault_view f).text; snippet = snippet })

-- the end of a run over a refused module
abbrev pub refused_end : Ended
refused_end = record { status = 1; issues = 0; is_shown = false }
