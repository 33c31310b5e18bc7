-- The output of a run over modules, and its status: each module is linted by itself, and the texts about them follow
-- one another. Our own choice.
use Rattle.std.specs.Prelude.{◌≡◌, ◌||◌, ◌&&◌, ◌==◌, ℕ, Bool, false, not, List, [], ◌∷◌, ◌++◌, Option, Some, None, Ok, Err, flat_map, fold, get_or, length, map, max, if◌then◌else◌}
use Rattle.std.specs.List.{list_any}
use Rattle.tree_lint.specs.CommentFaults.{CommentFault}
use Rattle.command_line.specs.Rows.{End, Took}
use Rattle.file_tree.specs.Files.{Faults, Files, Name}
use Rattle.file_tree.specs.Quotes.{shown_name}
use Rattle.lint_forms.specs.Forms.{module_text}
use Rattle.lint_forms.specs.Remarks.{Remark}
use Rattle.lint_forms.specs.declared.kind.Form.{Form}
use Rattle.lint_forms.specs.declared.subject.Subject.TheVariants as subject
use Rattle.module_find.specs.declared.module.Module.{Module}
use Rattle.source_snippet.specs.Snippets.{snippet, snippet_if}
use Rattle.tf_rules.specs.Issues.{asked_of}
use Rattle.tf_rules.specs.declared.issue.Issue.{Issue}
use Rattle.tfrules_command.specs.Line.{Request}
use Rattle.tfrules_command.specs.Report.{issue_line, report, report_by, status}
use Rattle.module_find.specs.KeptRefusals.{HoldsAll}
use Rattle.tree_lint.specs.Numbers.{counts_of}
use Rattle.tree_lint.specs.Parted.{after_empty_line}
use Rattle.module_find.specs.Refusals.{Refusal, refusal_line}
use Rattle.module_find.specs.Modules.{names_in}
use Rattle.tree_lint.specs.Verdicts.{IsVerdict, Linted, Verdict}
use Rattle.module_find.specs.declared.policy.Governed.{Governed}
use Rattle.module_find.specs.declared.policy.Policy.{Policy}
use Rattle.tree_lint.specs.declared.run.RunEnd.{RunEnd}
use Rattle.tree_lint.specs.declared.written.Manner.{Manner}
use Rattle.tree_lint.specs.declared.written.Terminals.{Terminals}

-- ---- one module

abbrev pub is_some : {A : Type 0} → List A → Bool
is_some xs = not (length xs == 0)

-- the line of an issue, and below it the line of the text that the issue is about
abbrev pub shown_issue : List (List ℕ) → List (List ℕ) → Issue → List ℕ
shown_issue names texts i = issue_line names i ++ snippet (get_or texts i.file []) i.at

-- the report on linted files with these names: that of `tfrules`, with these lines below if they are shown
abbrev pub report_of : Bool → List Name → Linted → List ℕ
report_of shows names linted =
    if shows then report_by (shown_issue names linted.texts) linted.issues
    else report names linted.issues

-- the report of a module, with quoted names of its files
abbrev pub module_report : Bool → Module → Linted → List ℕ
module_report shows m linted = report_of shows (map shown_name (names_in m)) linted

-- an issue in the file of its number, as a remark
abbrev pub issue_remark : List Name → Issue → Remark
issue_remark names i =
    record {
      file = get_or names i.file [];
      line = i.at.line;
      column = i.at.column;
      subject = subject.Rule i.rule;
      text = i.message;
    }

abbrev pub comment_remark : List Name → CommentFault → Remark
comment_remark names f =
    record {
      file = get_or names f.file [];
      line = f.at.line;
      column = f.at.column;
      subject = subject.Comment;
      text = f.text;
    }

abbrev pub remarks_by : List Name → Linted → List Remark
remarks_by names linted =
    map (issue_remark names) linted.issues ++ map (comment_remark names) linted.comments

-- the output for a linted module, after the outputs of others or as the first: a report of its issues, or its remarks
-- in a form
abbrev pub linted_output : Option Form → Bool → Bool → Module → Linted → List ℕ
linted_output None shows is_after m linted =
    after_empty_line is_after (module_report shows m linted)
linted_output (Some form) shows is_after m linted =
    module_text form is_after (remarks_by (names_in m) linted)

-- whether that output isn't empty
abbrev pub has_output : Option Form → Linted → Bool
has_output None linted = is_some linted.issues
has_output (Some form) linted = is_some linted.issues || is_some linted.comments

-- the line of a comment that silences nothing: like a refusal's, with its file and its place, and below it the line of
-- its text if that is shown
abbrev pub comment_line : Bool → List Name → List (List ℕ) → CommentFault → List ℕ
comment_line shows names texts f =
    refusal_line (record {
      name = get_or names f.file [];
      at = Some f.at;
      text = f.text;
      snippet = snippet_if shows (get_or texts f.file []) f.at;
    })

-- the text for standard output
abbrev pub verdict_output : Manner → Bool → Module → Verdict → List ℕ
verdict_output manner is_after m (Ok linted) =
    linted_output manner.form manner.terminals.out is_after m linted
verdict_output manner is_after m (Err refusals) = []

-- whether that text isn't empty
abbrev pub is_shown : Option Form → Verdict → Bool
is_shown form (Ok linted) = has_output form linted
is_shown form (Err refusals) = false

-- the text for standard error
abbrev pub verdict_message : Bool → Module → Verdict → List ℕ
verdict_message shows m (Ok linted) =
    flat_map (comment_line shows (names_in m) linted.texts) linted.comments
verdict_message shows m (Err refusals) = flat_map refusal_line refusals

-- the refusals of a refused module
abbrev pub refusals_of : Verdict → List Refusal
refusals_of (Ok linted) = []
refusals_of (Err refusals) = refusals

-- the part of a policy that decides whether an issue fails the run
abbrev pub failing_under : Policy → Request
failing_under policy =
    record {
      asked = asked_of policy.settings;
      minimum = policy.minimum;
      force = policy.force;
      files = [];
    }

-- the status of `tfrules`; a comment that silences nothing fails the run too, whatever the minimum severity for issues
abbrev pub verdict_status : Policy → Verdict → ℕ
verdict_status policy (Ok linted) =
    if not policy.force && is_some linted.comments then 2
    else status (failing_under policy) linted.issues
verdict_status policy (Err refusals) = 1

-- ---- all modules

-- each module has its verdict by its own policy, whatever the verdicts on the others; the faults of the device are
-- those of these modules
abbrev pub AreJudged : Files → Terminals → List Governed → List Verdict → Faults → Faults → Type 0
AreJudged files terminals [] [] was is = is ≡ was
AreJudged files terminals (m ∷ ms) (v ∷ vs) was is =
    (between : Faults) × IsVerdict files terminals m.policy m.module was between v
    × AreJudged files terminals ms vs between is
AreJudged _ _ _ _ was is = ⊥

-- the outputs of modules, one after another, with an empty line between two reports
abbrev pub reports_after : Manner → Bool → List Governed → List Verdict → List ℕ
reports_after manner is_after (m ∷ ms) (v ∷ vs) =
    verdict_output manner is_after m.module v
    ++ reports_after manner (is_after || is_shown manner.form v) ms vs
reports_after manner is_after _ _ = []

-- the messages about modules
abbrev pub messages : Bool → List Governed → List Verdict → List ℕ
messages shows (m ∷ ms) (v ∷ vs) = verdict_message shows m.module v ++ messages shows ms vs
messages shows _ _ = []

-- 1 is worse than 2, and 2 than 0
abbrev pub worse_status : ℕ → ℕ → ℕ
worse_status one other = if one == 1 || other == 1 then 1 else max one other

abbrev pub statuses : List Governed → List Verdict → List ℕ
statuses (m ∷ ms) (v ∷ vs) = verdict_status m.policy v ∷ statuses ms vs
statuses _ _ = []

abbrev pub worst_status : List ℕ → ℕ
worst_status statuses = fold worse_status 0 statuses

-- the findings of a run: its numbers, whether any of them went to standard output, and the refusals
pub record IsFound (form : Option Form) (modules : List Governed) (verdicts : List Verdict)
    (ran : RunEnd) : Type 0 where
  pub counts : ran.counts ≡ counts_of modules verdicts
  pub output : ran.has_output ≡ list_any (is_shown form) verdicts
  pub refusals : HoldsAll ran.kept (flat_map refusals_of verdicts)

-- THE RUN over modules: each has its verdict, up to one after which nothing can be written any more. Each writer took
-- the texts about them, or a front of these if it failed, and the status is the worst one. If none failed, these are
-- the run's numbers and refusals.
pub record IsLintRun (files : Files) (manner : Manner) (head : List ℕ) (modules : List Governed)
    (was is : Faults) (end : End) (ran : RunEnd) : Type 0 where
  pub seen : List Governed
  pub rest : List Governed
  pub all : modules ≡ seen ++ rest
  pub whole : (end.out.failed || end.err.failed) ≡ false → rest ≡ []
  pub verdicts : List Verdict
  pub judged : AreJudged files manner.terminals seen verdicts was is
  pub output : Took end.out (head ++ reports_after manner false seen verdicts)
  pub message : Took end.err (messages manner.terminals.err seen verdicts)
  pub exit : end.status
      ≡ (if end.out.failed || end.err.failed then 1 else worst_status (statuses seen verdicts))
  pub found : (end.out.failed || end.err.failed) ≡ false → IsFound manner.form seen verdicts ran
