use Rattle.std.proofs.Common.{◌≡◌, ◌∙◌, ◌++◌, ap, map, subst}
use Rattle.std.specs.Prelude.{IfOk, string_bytes}
use Rattle.tree_lint.specs.CommentFaults.{fault_view}
use Rattle.lint_forms.specs.Forms.{module_text}
use Rattle.lint_forms.specs.Remarks.{said_by}
use Rattle.tree_lint.specs.Runs.{comment_remark, issue_remark}
use Rattle.tree_lint.proofs.ShownLemmas.{remarks_told}
use Rattle.tree_lint.proofs.issue_remarks.linted_text.Goals as goal

pub returns : goal.returns
returns c =
    let names = map string_bytes c.args.names.now in
    subst (λ rs. IfOk c.module_text.result (λ text. text.items ≡ module_text c.args.form c.args.is_after rs))
    (ap (map said_by) c.as_slice-2.ensures.value ∙ c.in_ok-add_comments.ensures
    ∙ ap (λ l. l ++ map (λ f. comment_remark names (fault_view f)) c.args.linted.comments.now) (c.in_ok-remarks.ensures ∙ ap (map (issue_remark names)) (c.as_slice.ensures.value ∙ c.in_ok-owned.ensures))
    ∙ remarks_told names c.args.linted.issues.now c.args.linted.comments.now c.args.linted.texts.now) c.module_text.ensures
